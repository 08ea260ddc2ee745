use Rattle.std.proofs.Common.{◌≡◌, get_or, rules, arith, sym, ◌∙◌, subst, inl, inr}
use Rattle.std.specs.Prelude.{Contains}
use Rattle.std.proofs.lemmas.Bool.{cases_eq}
use Rattle.std.proofs.lemmas.List.{get_or_default}
use Rattle.decision_order.proofs.unassigned.is_satisfied.Goals as goal

pub loop-l-preserved : goal.loop-l-preserved
loop-l-preserved c =
    let i = c.loop-l.invariant in
    let t = c.args.core.now.trail in
    let cl = c.args.clause.now in
    let m = c.l-item.result in
    let room = c.loop-l-test.true in
    let off : Contains t m → ⊥ = search rules in
    record {
      none = λ j d h k. elim (cases_eq j c.loop-l.l-index) [
        | inl e ↦ off (subst (Contains t) (subst (λ z. get_or cl z d ≡ m) (sym e) (get_or_default cl c.loop-l.l-index d m room ∙ sym c.l-item.is)) k)
        | inr ne ↦ i.none j d (omega (arith, h, ne)) k
      ];
    }

pub returns : goal.returns
returns c =
    let i = c.loop-l.invariant in
    record { no = λ e l k h. i.none k.0 l (omega (arith, k.1, c.loop-l-test.false)) (subst (Contains c.args.core.now.trail) (sym k.2) h) }
