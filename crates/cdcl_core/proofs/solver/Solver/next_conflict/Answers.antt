use Rattle.std.proofs.Common.{arith, subst}
use Rattle.std.proofs.lemmas.Result.{err_from_is_err_and}
use Rattle.cdcl_core.specs.Searching.{IsRight, StepFits}
use Rattle.cdcl_core.specs.declared.solver.Step.TheVariants.{Answered, Learnt, Thawed}
use Rattle.cdcl_core.proofs.Steps.{step_later, stops_later}
use Rattle.cdcl_core.proofs.solver.Solver.next_conflict.Goals as goal

pub returns-in_err-solved-clause-stopped : goal.returns-in_err-solved-clause-stopped
returns-in_err-solved-clause-stopped g c =
    let i = c.loop-solved.invariant in
    let t = c.in_err-solved.ensures in
    let p = err_from_is_err_and c.from_residual.result c.from_residual.ensures.1 in
    rw (p.1, p.2) (stops_later g.L.Log.takes g.L.Log.faults g.L.Log.fails c.args.self.now c.loop-solved.self c.args.log.now c.loop-solved.log c.step.new.log c.in_err-solved.field-0.0 i.leads i.conflicts t.stopped)

pub returns-in-Answered-clause-answered : goal.returns-in-Answered-clause-answered
returns-in-Answered-clause-answered g c =
    let i = c.loop-solved.invariant in
    let t = c.in_ok-solved.ensures in
    let fits = subst (StepFits g.L.Log.takes g.L.Log.fails g.L.Log.faults c.loop-solved.self c.step.new.self c.loop-solved.log c.step.new.log) c.in-Answered.is t.fits in
    step_later g.L.Log.takes g.L.Log.faults g.L.Log.fails c.args.self.now c.loop-solved.self c.step.new.self c.args.log.now c.loop-solved.log c.step.new.log (Answered c.in-Answered.solved) i.leads i.conflicts i.few fits

pub returns-in-Learnt-clause-learnt : goal.returns-in-Learnt-clause-learnt
returns-in-Learnt-clause-learnt g c =
    let i = c.loop-solved.invariant in
    let t = c.in_ok-solved.ensures in
    let fits = subst (StepFits g.L.Log.takes g.L.Log.fails g.L.Log.faults c.loop-solved.self c.step.new.self c.loop-solved.log c.step.new.log) c.in-Learnt.is t.fits in
    step_later g.L.Log.takes g.L.Log.faults g.L.Log.fails c.args.self.now c.loop-solved.self c.step.new.self c.args.log.now c.loop-solved.log c.step.new.log Learnt i.leads i.conflicts i.few fits

pub loop-solved-preserved : goal.loop-solved-preserved
loop-solved-preserved g c =
    let i = c.loop-solved.invariant in
    let t = c.in_ok-solved.ensures in
    let fits = subst (StepFits g.L.Log.takes g.L.Log.fails g.L.Log.faults c.loop-solved.self c.step.new.self c.loop-solved.log c.step.new.log) c.in-Thawed.is t.fits in
    let w = step_later g.L.Log.takes g.L.Log.faults g.L.Log.fails c.args.self.now c.loop-solved.self c.step.new.self c.args.log.now c.loop-solved.log c.step.new.log Thawed i.leads i.conflicts i.few fits in
    record { solver = t.solver; leads = w.0; conflicts = w.1; few = (let h = w.2 in omega (arith, h)) }

pub returns-in-Answered-clause-right : goal.returns-in-Answered-clause-right
returns-in-Answered-clause-right g c = let t = c.in_ok-solved.ensures in subst (IsRight c.args.formula.now) c.in-Answered.is t.right
