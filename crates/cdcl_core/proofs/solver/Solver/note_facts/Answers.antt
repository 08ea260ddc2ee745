use Rattle.std.proofs.Common.{refl, ◌∙◌}
use Rattle.std.proofs.lemmas.Result.{err_from_is_err_and}
use Rattle.cdcl_core.specs.declared.solver.Solver.{Solver}
use Rattle.cdcl_core.proofs.Steps.{moves_same, leads_moves, leads_both, solver_same, stops_later}
use Rattle.cdcl_core.proofs.solver.Solver.note_facts.Goals as goal

pub loop-place-init : goal.loop-place-init
loop-place-init g c =
    let s = c.args.self.now in
    record {
      core = refl;
      frozen = refl;
      pending = refl;
      conflicts = refl;
      deletions = refl;
      analysis = refl;
      leads = leads_moves g.L.Log.takes g.L.Log.faults s s c.args.log.now (moves_same s s refl refl refl refl refl refl);
    }

pub note_fact-requires-clause-solver : goal.note_fact-requires-clause-solver
note_fact-requires-clause-solver g c = let i = c.loop-place.invariant in solver_same c.args.self.now c.loop-place.self i.core i.frozen i.pending i.analysis c.requires.solver

pub loop-place-preserved : goal.loop-place-preserved
loop-place-preserved g c =
    let i = c.loop-place.invariant in
    let e = c.in_ok-note_fact.ensures in
    record {
      core = e.core ∙ i.core;
      frozen = e.frozen ∙ i.frozen;
      pending = e.pending ∙ i.pending;
      conflicts = e.conflicts ∙ i.conflicts;
      deletions = e.deletions ∙ i.deletions;
      analysis = e.analysis ∙ i.analysis;
      leads = leads_both g.L.Log.takes g.L.Log.faults c.args.self.now c.loop-place.self c.note_fact.new.self c.args.log.now c.loop-place.log c.note_fact.new.log i.leads e.leads;
    }

pub returns-in_err-note_fact-clause-stopped : goal.returns-in_err-note_fact-clause-stopped
returns-in_err-note_fact-clause-stopped g c =
    let i = c.loop-place.invariant in
    let e = c.in_err-note_fact.ensures in
    let p = err_from_is_err_and c.from_residual.result c.from_residual.ensures.1 in
    rw (p.1, p.2) (stops_later g.L.Log.takes g.L.Log.faults g.L.Log.fails c.args.self.now c.loop-place.self c.args.log.now c.loop-place.log c.note_fact.new.log c.in_err-note_fact.field-0.0 i.leads i.conflicts e.stopped)

pub returns-clause-leads : goal.returns-clause-leads
returns-clause-leads g c =
    let i = c.loop-place.invariant in
    let a = c.loop-place.log in
    let t = c.loop-place.self in
    let new : Solver = record t { noted = c.fixed_count-count.result } in
    leads_both g.L.Log.takes g.L.Log.faults c.args.self.now t new c.args.log.now a a i.leads (leads_moves g.L.Log.takes g.L.Log.faults t new a (moves_same t new refl refl refl refl refl refl))
