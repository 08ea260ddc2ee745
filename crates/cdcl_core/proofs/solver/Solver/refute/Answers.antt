use Rattle.std.proofs.Common.{◌≤◌, [], length, subst, sym, arith}
use Rattle.std.proofs.lemmas.Result.{on_ok_weaker, IfErr-weaker}
use Rattle.cnf_form.specs.Cnf.{IsAdmitted}
use Rattle.unit_propagation.specs.Propagator.{PropagatorOf, clauses_of}
use Rattle.frozen_clauses.specs.Frozen.{FrozenOf}
use Rattle.cdcl_core.specs.Searching.{Stops}
use Rattle.cdcl_core.specs.declared.solver.Solved.TheVariants.{Unsat}
use Rattle.cdcl_core.specs.declared.solver.Step.TheVariants.{Answered}
use Rattle.cdcl_core.proofs.Steps.{step_later, stops_later}
use Rattle.cdcl_core.proofs.solver.Solver.refute.Goals as goal

pub end_empty-requires-clause-admitted : goal.end_empty-requires-clause-admitted
end_empty-requires-clause-admitted g c =
    let e = c.in_ok-note_facts.ensures in
    subst (λ (p : PropagatorOf). IsAdmitted (clauses_of p.slots) []) (sym e.core) c.requires.admitted

pub returns-clause-fits : goal.returns-clause-fits
returns-clause-fits g c =
    let s = c.args.self.now in
    let t = c.note_facts.new.self in
    let a = c.args.log.now in
    let m = c.note_facts.new.log in
    let e = c.in_ok-note_facts.ensures in
    let few : length (clauses_of t.frozen.slots) ≤ length (clauses_of s.frozen.slots) = subst (λ (z : FrozenOf). length (clauses_of z.slots) ≤ length (clauses_of s.frozen.slots)) (sym e.frozen) (omega arith) in
    on_ok_weaker c.end_empty.result (λ w. step_later g.L.Log.takes g.L.Log.faults g.L.Log.fails s t c.end_empty.new.self a m c.end_empty.new.log (Answered Unsat) e.leads e.conflicts few w) c.end_empty.ensures.fits

pub returns-clause-stopped : goal.returns-clause-stopped
returns-clause-stopped g c =
    let s = c.args.self.now in
    let t = c.note_facts.new.self in
    let a = c.args.log.now in
    let m = c.note_facts.new.log in
    let b = c.end_empty.new.log in
    let e = c.in_ok-note_facts.ensures in
    IfErr-weaker c.end_empty.result (λ o. Stops g.L.Log.takes g.L.Log.fails g.L.Log.faults t m b o) (λ o. Stops g.L.Log.takes g.L.Log.fails g.L.Log.faults s a b o)
    (λ o w. stops_later g.L.Log.takes g.L.Log.faults g.L.Log.fails s t a m b o e.leads e.conflicts w) c.end_empty.ensures.stopped
