use Rattle.std.proofs.Common.{List, Some, ap, arith, false, refl, subst, sym, ◌≡◌, ◌≤◌, ◌∙◌, length}
use Rattle.std.specs.Prelude.{slice_get}
use Rattle.std.proofs.lemmas.List.{take_all}
use Rattle.cnf_form.specs.Cnf.{ClauseWithin, IsAdmitted, LitOf}
use Rattle.drup_check.specs.Checking.{CheckerOf}
use Rattle.pair_form.specs.Pair.{clauses_over}
use Rattle.inv_fate.specs.Fate.{AreAdmitted}
use Rattle.inv_judge.proofs.Saying.{admitted_step, no_both, refused, said_within}
use Rattle.inv_judge.proofs.asking.all_admitted.Goals as goal

pub admits-requires : goal.admits-requires
admits-requires c =
    subst (λ v. ClauseWithin v c.as_slice.result.now) (sym (ap (λ (k : CheckerOf). k.vars) c.loop-place.invariant.same ∙ c.requires))
    (said_within c.args.pair.now c.promise.ensures c.args.frame c.get.result.now c.as_slice.result.now (c.as_slice.ensures.value ∙ c.in_ok-say.ensures))

pub returns-then-not-branch : goal.returns-then-not-branch
returns-then-not-branch c = (
  (λ f. absurd (no_both false refl f)),
  (λ a. absurd (refused c.args.checker.now.clauses c.args.pair.now c.args.frame c.args.invariant.now.clauses c.loop-place.place c.get.result.now c.as_slice.result.now
      (subst (λ (cs : List (List LitOf)). slice_get cs c.loop-place.place ≡ Some c.get.result.now) c.clauses-clauses.ensures.clauses c.get.ensures.clause)
      (c.as_slice.ensures.value ∙ c.in_ok-say.ensures)
      (λ h. no_both c.in_ok-admits.field-0 c.if-not-branch.true (c.in_ok-admits.ensures.exact.1 (subst (λ (k : CheckerOf). IsAdmitted k.clauses c.as_slice.result.now) (sym c.loop-place.invariant.same) h))) a)),
)

pub loop-place-preserved : goal.loop-place-preserved
loop-place-preserved c = record {
  same = c.admits.ensures.same ∙ c.loop-place.invariant.same;
  admitted = admitted_step c.args.checker.now.clauses c.args.pair.now c.args.frame c.clauses-clauses.result c.loop-place.place c.get.result.now c.as_slice.result.now c.get.ensures.clause
      (c.as_slice.ensures.value ∙ c.in_ok-say.ensures) c.loop-place.invariant.admitted
      (subst (λ (k : CheckerOf). IsAdmitted k.clauses c.as_slice.result.now) c.loop-place.invariant.same (c.in_ok-admits.ensures.exact.0 c.if-not-branch.false));
}

pub returns : goal.returns
returns c = (
  (λ _. subst (λ (cs : List (List LitOf)). AreAdmitted c.args.checker.now.clauses (clauses_over c.args.pair.now c.args.frame cs))
      (take_all c.loop-place.place c.clauses-clauses.result (let h : length c.clauses-clauses.result ≤ c.loop-place.place = omega (arith, c.loop-place-test.false, c.len-place-end.ensures) in h) ∙ c.clauses-clauses.ensures.clauses) c.loop-place.invariant.admitted),
  (λ _. refl),
)
