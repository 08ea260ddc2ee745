use Rattle.std.proofs.Common.{arith}
use Rattle.net_jobs.proofs.Scattering.{states_other}
use Rattle.net_jobs.proofs.decoding.put_state.Goals as goal

pub returns-in_default-clause-tell : goal.returns-in_default-clause-tell
returns-in_default-clause-tell c = λ x rest e h.
    let n = c.len.ensures in
    states_other x c.args.free rest c.args.bits.now.items h (λ k l p q. c.in_default.ensures.none k (omega arith) p q)
