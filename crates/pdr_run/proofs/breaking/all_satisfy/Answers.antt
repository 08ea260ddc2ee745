use Rattle.std.proofs.Common.{ap, arith, refl, subst, sym, ◌∙◌}
use Rattle.cnf_form.specs.Cnf.{Satisfies}
use Rattle.cdcl_core.specs.Solving.{valued}
use Rattle.pdr_run.specs.Deciding.{cycle_at}
use Rattle.pdr_run.proofs.Cycles.{cycle_is, one_more}
use Rattle.pdr_run.proofs.breaking.all_satisfy.Goals as goal

pub loop-values-preserved : goal.loop-values-preserved
loop-values-preserved c =
    let e = cycle_is c.args.cycles.now c.loop-values.values-index c.values-item.result (omega (arith, c.loop-values-test.true)) c.values-item.is in
    one_more (λ i. Satisfies (cycle_at c.args.cycles.now i) c.args.pair.now.formula.clauses) c.loop-values.values-index c.loop-values.invariant
    (subst (λ f. Satisfies (cycle_at c.args.cycles.now c.loop-values.values-index) f.clauses) c.formula.ensures
    (subst (λ x. Satisfies x c.formula.result.now.clauses) (ap valued c.deref.ensures.value ∙ sym e) (c.if-not-satisfies.ensures refl)))
