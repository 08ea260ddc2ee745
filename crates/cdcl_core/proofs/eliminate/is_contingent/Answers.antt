use Rattle.std.proofs.Common.{◌≡◌, ◌∙◌, arith, length, ap, get_or, subst, sym, inl, inr}
use Rattle.std.specs.Prelude.{Contains}
use Rattle.std.proofs.lemmas.Bool.{both_ways, cases_eq}
use Rattle.std.proofs.lemmas.List.{get_or_default}
use Rattle.cnf_form.specs.Cnf.{negate}
use Rattle.cdcl_core.proofs.eliminate.is_contingent.Goals as goal

pub loop-m-preserved : goal.loop-m-preserved
loop-m-preserved c i d h k =
    let cl = c.args.clause.now in
    let n = c.loop-m.m-index in
    let m = c.m-item.result in
    elim (cases_eq i n) [
      | inl e ↦
          let same : get_or cl i d ≡ m = subst (λ z. get_or cl z d ≡ m) (sym e) (get_or_default cl n d m (omega (arith, c.loop-m-test.true)) ∙ sym c.m-item.is) in
          both_ways _ c.if-has.false (c.has.ensures.1 (subst (Contains cl) (sym c.negate.ensures) (subst (λ z. Contains cl (negate z)) same k)))
      | inr ne ↦ c.loop-m.invariant i d (omega (arith, h, ne)) k
    ]

pub returns-clause-contingent : goal.returns-clause-contingent
returns-clause-contingent c t =
    let cl = c.args.clause.now in
    record {
      full = λ q. absurd (c.if-clause-eq0.false (ap length q));
      apart = λ l h k. c.loop-m.invariant h.0 l (omega (arith, h.1, c.loop-m-test.false)) (subst (λ z. Contains cl (negate z)) (sym h.2) k);
    }
