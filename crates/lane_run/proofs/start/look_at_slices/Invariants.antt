use Rattle.std.proofs.Common.{◌≡◌}
use Rattle.race_cells.specs.Notes.{AreNotesOf}
use Rattle.lane_run.specs.Keeping.{IsOfCell, Keeps}
use Rattle.lane_run.proofs.start.look_at_slices.Given as goal

abbrev pub invariant-loop-place : goal.invariant-loop-place
invariant-loop-place g l = record {
  same : l.events ≡ l.fn.events;
  of : AreNotesOf l.watch.cells.now l.notes;
  keeps : Keeps (IsOfCell g.T.Settled.problem g.T.Settled.job (g.J.ForJob.problem l.watch.problem.now) l.watch.terms.now l.watch.other) (g.C.Clock.may_read l.watch.clock.now)
      l.fn.notes l.notes l.fn.events.events l.fn.events.events;
}
