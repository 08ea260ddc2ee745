use Rattle.std.proofs.Common.{◌≤◌, length, subst, sym, arith}
use Rattle.std.proofs.lemmas.Result.{IfOk-weaker, IfErr-weaker}
use Rattle.unit_propagation.specs.Propagator.{clauses_of}
use Rattle.frozen_clauses.specs.Frozen.{FrozenOf}
use Rattle.cdcl_core.specs.Searching.{StepFits, Stops}
use Rattle.cdcl_core.proofs.Steps.{step_later, stops_later}
use Rattle.cdcl_core.proofs.solver.Solver.learn.Goals as goal

pub returns-clause-fits : goal.returns-clause-fits
returns-clause-fits g c =
    let s = c.args.self.now in
    let t = c.note_facts.new.self in
    let a = c.args.log.now in
    let m = c.note_facts.new.log in
    let e = c.in_ok-note_facts.ensures in
    let few : length (clauses_of t.frozen.slots) ≤ length (clauses_of s.frozen.slots) = subst (λ (z : FrozenOf). length (clauses_of z.slots) ≤ length (clauses_of s.frozen.slots)) (sym e.frozen) (omega arith) in
    IfOk-weaker c.learn_from.result (λ o. StepFits g.L.Log.takes g.L.Log.fails g.L.Log.faults t c.learn_from.new.self m c.learn_from.new.log o) (λ o. StepFits g.L.Log.takes g.L.Log.fails g.L.Log.faults s c.learn_from.new.self a c.learn_from.new.log o)
    (λ o w. step_later g.L.Log.takes g.L.Log.faults g.L.Log.fails s t c.learn_from.new.self a m c.learn_from.new.log o e.leads e.conflicts few w) c.learn_from.ensures.fits

pub returns-clause-stopped : goal.returns-clause-stopped
returns-clause-stopped g c =
    let s = c.args.self.now in
    let t = c.note_facts.new.self in
    let a = c.args.log.now in
    let m = c.note_facts.new.log in
    let b = c.learn_from.new.log in
    let e = c.in_ok-note_facts.ensures in
    IfErr-weaker c.learn_from.result (λ o. Stops g.L.Log.takes g.L.Log.fails g.L.Log.faults t m b o) (λ o. Stops g.L.Log.takes g.L.Log.fails g.L.Log.faults s a b o)
    (λ o w. stops_later g.L.Log.takes g.L.Log.faults g.L.Log.fails s t a m b o e.leads e.conflicts w) c.learn_from.ensures.stopped
