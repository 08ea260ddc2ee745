use Rattle.std.proofs.Common.{◌≡◌, All, ap, sym, subst, ◌∙◌, arith}
use Rattle.std.proofs.lemmas.List.{take_all}
use Rattle.cnf_form.specs.Cnf.{LitWithin}
use Rattle.bit_net.specs.Net.{vars}
use Rattle.bit_net.specs.Reaching.{nexts}
use Rattle.net_unroll.proofs.Stepping.{nexts_within}
use Rattle.net_unroll.proofs.cycles.nexts_of.Goals as goal

pub returns-clause-within : goal.returns-clause-within
returns-clause-within c =
    let end = c.loop-var-test.false in
    let all : c.loop-var.lits.items ≡ nexts c.args.net.now c.args.places.now = c.loop-var.invariant ∙ ap (nexts c.args.net.now) (take_all c.loop-var.var-index c.args.places.now (omega arith)) in
    subst (All (LitWithin (vars c.args.net.now))) (sym all) (nexts_within c.args.net.now c.args.places.now c.promise.ensures c.requires)
