use Rattle.std.proofs.Common.{◌≡◌, ◌+◌, ◌<◌, arith, sym, subst}
use Rattle.std.proofs.lemmas.Result.{err_from_is_err_and, IfOk-weaker, IfErr-weaker}
use Rattle.unit_propagation.specs.Propagator.{clauses_of}
use Rattle.frozen_clauses.specs.Frozen.{FrozenOf}
use Rattle.std.specs.Prelude.{length, ◌≤◌, IfSome, IfNone}
use Rattle.cnf_form.specs.Cnf.{FormulaOf, Satisfies}
use Rattle.cdcl_core.specs.Levels.{FoundFits}
use Rattle.cdcl_core.specs.Searching.{IsRight, Moves, StepFits, Stops}
use Rattle.cdcl_core.specs.Solving.{valued}
use Rattle.cdcl_core.specs.declared.solver.Solved.TheVariants.{Unsat}
use Rattle.cdcl_core.specs.declared.solver.Step.TheVariants.{Answered}
use Rattle.cdcl_core.proofs.Answering.{root_admits}
use Rattle.cdcl_core.proofs.Steps.{moves_both, leads_moves, step_later, step_finds, stops_moves}
use Rattle.cdcl_core.proofs.solver.Solver.step.Goals as goal

pub answer-requires-clause-conflict : goal.answer-requires-clause-conflict
answer-requires-clause-conflict g c = let t = c.find.new.self in let f = c.in_ok-find.ensures in subst (FoundFits t.core) c.in-Assigned.is f.found

pub returns-in-Some-clause-fits : goal.returns-in-Some-clause-fits
returns-in-Some-clause-fits g c =
    let s = c.args.self.now in
    let t = c.find.new.self in
    let u = c.answer.new.self in
    let v = c.in-Some.values.items in
    let r = c.in_ok-restart_if_due.ensures in
    let f = c.in_ok-find.ensures in
    let e = c.in_ok-values-in-Assigned.ensures in
    let m : Moves s u = moves_both s t u (moves_both s c.restart_if_due.new.self t r.moves f.moves) e.moves in
    let sized = subst (λ o. IfSome o (λ v. length v.items ≡ u.core.vars + 1)) c.in-Some.is e.sized in
    ((λ q. cc), step_finds g.L.Log.takes g.L.Log.faults g.L.Log.fails s u c.args.log.now v m sized)

pub returns-in-Some-clause-right : goal.returns-in-Some-clause-right
returns-in-Some-clause-right g c = let e = c.in_ok-values-in-Assigned.ensures in subst (λ o. IfSome o (λ v. Satisfies (valued v.items) c.args.formula.now.clauses)) c.in-Some.is e.right

pub returns-in-None-clause-fits : goal.returns-in-None-clause-fits
returns-in-None-clause-fits g c =
    let s = c.args.self.now in
    let t = c.find.new.self in
    let u = c.answer.new.self in
    let r = c.in_ok-restart_if_due.ensures in
    let f = c.in_ok-find.ensures in
    let e = c.in_ok-values-in-Assigned.ensures in
    let m : Moves s u = moves_both s t u (moves_both s c.restart_if_due.new.self t r.moves f.moves) e.moves in
    let fewer = subst (λ o. IfNone o (length (clauses_of u.frozen.slots) < length (clauses_of t.frozen.slots))) c.in-None.is e.fewer in
    let few : length (clauses_of t.frozen.slots) ≤ length (clauses_of s.frozen.slots) = subst (λ (z : FrozenOf). length (clauses_of z.slots) ≤ length (clauses_of s.frozen.slots)) (sym f.frozen) r.few in
    (leads_moves g.L.Log.takes g.L.Log.faults s u c.args.log.now m, m.conflicts, omega (arith, fewer, few))

pub refute-requires-clause-admitted : goal.refute-requires-clause-admitted
refute-requires-clause-admitted g c =
    let t = c.find.new.self in
    let f = c.in_ok-find.ensures in
    let i = f.solver in
    let w = subst (FoundFits t.core) c.in-Refuted.is f.found in
    root_admits t.core i.justified w.0 w.1

pub returns-in_ok-refute-in-Refuted-clause-fits : goal.returns-in_ok-refute-in-Refuted-clause-fits
returns-in_ok-refute-in-Refuted-clause-fits g c =
    let s = c.args.self.now in
    let t = c.find.new.self in
    let a = c.args.log.now in
    let r = c.in_ok-restart_if_due.ensures in
    let f = c.in_ok-find.ensures in
    let u = c.in_ok-refute-in-Refuted.ensures in
    let m : Moves s t = moves_both s c.restart_if_due.new.self t r.moves f.moves in
    let few : length (clauses_of t.frozen.slots) ≤ length (clauses_of s.frozen.slots) = subst (λ (z : FrozenOf). length (clauses_of z.slots) ≤ length (clauses_of s.frozen.slots)) (sym f.frozen) r.few in
    step_later g.L.Log.takes g.L.Log.faults g.L.Log.fails s t c.refute.new.self a a c.refute.new.log (Answered Unsat) (leads_moves g.L.Log.takes g.L.Log.faults s t a m) m.conflicts few u.fits

pub returns-in_err-refute-in-Refuted-clause-stopped : goal.returns-in_err-refute-in-Refuted-clause-stopped
returns-in_err-refute-in-Refuted-clause-stopped g c =
    let s = c.args.self.now in
    let t = c.find.new.self in
    let r = c.in_ok-restart_if_due.ensures in
    let f = c.in_ok-find.ensures in
    let u = c.in_err-refute-in-Refuted.ensures in
    let m : Moves s t = moves_both s c.restart_if_due.new.self t r.moves f.moves in
    let p = err_from_is_err_and c.from_residual-in_err-refute-in-Refuted.result c.from_residual-in_err-refute-in-Refuted.ensures.1 in
    rw (p.1, p.2) (stops_moves g.L.Log.takes g.L.Log.faults g.L.Log.fails s t c.args.log.now c.refute.new.log c.in_err-refute-in-Refuted.field-0.0 m u.stopped)

pub returns-in-Falsified-clause-fits : goal.returns-in-Falsified-clause-fits
returns-in-Falsified-clause-fits g c =
    let s = c.args.self.now in
    let t = c.find.new.self in
    let a = c.args.log.now in
    let b = c.learn.new.log in
    let new = c.learn.new.self in
    let r = c.in_ok-restart_if_due.ensures in
    let f = c.in_ok-find.ensures in
    let m : Moves s t = moves_both s c.restart_if_due.new.self t r.moves f.moves in
    let few : length (clauses_of t.frozen.slots) ≤ length (clauses_of s.frozen.slots) = subst (λ (z : FrozenOf). length (clauses_of z.slots) ≤ length (clauses_of s.frozen.slots)) (sym f.frozen) r.few in
    IfOk-weaker c.learn.result (λ o. StepFits g.L.Log.takes g.L.Log.fails g.L.Log.faults t new a b o) (λ o. StepFits g.L.Log.takes g.L.Log.fails g.L.Log.faults s new a b o)
    (λ o w. step_later g.L.Log.takes g.L.Log.faults g.L.Log.fails s t new a a b o (leads_moves g.L.Log.takes g.L.Log.faults s t a m) m.conflicts few w) c.learn.ensures.fits

pub returns-in-Falsified-clause-stopped : goal.returns-in-Falsified-clause-stopped
returns-in-Falsified-clause-stopped g c =
    let s = c.args.self.now in
    let t = c.find.new.self in
    let a = c.args.log.now in
    let b = c.learn.new.log in
    let r = c.in_ok-restart_if_due.ensures in
    let f = c.in_ok-find.ensures in
    let m : Moves s t = moves_both s c.restart_if_due.new.self t r.moves f.moves in
    IfErr-weaker c.learn.result (λ e. Stops g.L.Log.takes g.L.Log.fails g.L.Log.faults t a b e) (λ e. Stops g.L.Log.takes g.L.Log.fails g.L.Log.faults s a b e)
    (λ e w. stops_moves g.L.Log.takes g.L.Log.faults g.L.Log.fails s t a b e m w) c.learn.ensures.stopped

pub returns-in-Falsified-clause-right : goal.returns-in-Falsified-clause-right
returns-in-Falsified-clause-right g c = IfOk-weaker c.learn.result (λ o. (f : FormulaOf) → IsRight f o) (λ o. IsRight c.args.formula.now o) (λ o w. w c.args.formula.now) c.learn.ensures.right
