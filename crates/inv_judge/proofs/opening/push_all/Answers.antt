use Rattle.std.proofs.Common.{ap, subst, sym, ◌∙◌}
use Rattle.cnf_form.specs.Cnf.{ClauseWithin, FormulaOf}
use Rattle.pair_form.specs.declared.pair.Frame.TheVariants.{First}
use Rattle.inv_judge.proofs.Saying.{assumed_step, said_within}
use Rattle.inv_judge.proofs.opening.push_all.Goals as goal

pub push-requires : goal.push-requires
push-requires c =
    subst (λ v. ClauseWithin v c.as_slice.result.now) (sym (c.loop-place.invariant.vars ∙ c.requires))
    (said_within c.args.pair.now c.promise.ensures First c.get.result.now c.as_slice.result.now (c.as_slice.ensures.value ∙ c.in_ok-say.ensures))

pub loop-place-preserved : goal.loop-place-preserved
loop-place-preserved c = record {
  vars = ap (λ (f : FormulaOf). f.vars) c.in_ok-push.ensures.ok ∙ c.loop-place.invariant.vars;
  clauses = assumed_step c.args.pair.now First c.clauses-clauses.result c.loop-place.place c.get.result.now c.as_slice.result.now c.args.formula.now.clauses c.loop-place.formula.clauses c.push.new.self.clauses
      c.get.ensures.clause (c.as_slice.ensures.value ∙ c.in_ok-say.ensures) c.loop-place.invariant.clauses (ap (λ (f : FormulaOf). f.clauses) c.in_ok-push.ensures.ok);
}
