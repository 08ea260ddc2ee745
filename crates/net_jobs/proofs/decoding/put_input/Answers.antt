use Rattle.std.proofs.Common.{refl, arith}
use Rattle.net_jobs.proofs.Scattering.{inputs_other, inputs_put}
use Rattle.net_jobs.proofs.decoding.put_input.Goals as goal

pub returns-in-Some-clause-tell : goal.returns-in-Some-clause-tell
returns-in-Some-clause-tell c = λ x rest e h.
    let (p, l) = c.in-Some.ensures.some in
    let late = c.if-cycle-count.false in
    inputs_put x c.args.first c.args.width c.args.count c.args.free rest c.args.bits.now.items c.args.free.cycle c.in-Some.input c.args.bit e h c.requires refl p (omega arith) l

pub returns-in_default-clause-tell : goal.returns-in_default-clause-tell
returns-in_default-clause-tell c = λ x rest e h. inputs_other x c.args.first c.args.width c.args.count c.args.free rest c.args.bits.now.items h (λ t k l m p q. c.in_default.ensures.none k m q)
