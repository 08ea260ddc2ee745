use Rattle.std.proofs.Common.{◌≡◌, true, refl, rules, arith}
use Rattle.unit_propagation.specs.Marks.{is_marked}
use Rattle.drup_check.proofs.Weights.{all_more, all_whole}
use Rattle.drup_check.proofs.marks.is_within.Goals as goal

pub loop-l-preserved : goal.loop-l-preserved
loop-l-preserved c =
    let on : is_marked c.args.marks.now c.l-item.result ≡ true = search rules in
    all_more (λ m. is_marked c.args.marks.now m ≡ true) c.args.clause.now c.loop-l.l-index c.l-item.result (omega arith) c.l-item.is c.loop-l.invariant on

pub returns : goal.returns
returns c = (λ t. all_whole (λ m. is_marked c.args.marks.now m ≡ true) c.args.clause.now c.loop-l.l-index (omega arith) c.loop-l.invariant, λ h. refl)
