use Rattle.std.proofs.Common.{◌≡◌}
use Rattle.race_cells.specs.Notes.{AreNotesOf}
use Rattle.race_core.specs.Asking.{name_at, terms_of}
use Rattle.lane_run.specs.Keeping.{Remember}
use Rattle.lane_run.specs.Asked.{IsFor, terms_at}
use Rattle.lane_run.specs.Done.{LaneFaults, LaneSoFar}
use Rattle.lane_run.specs.Started.{LaneStarts}
use Rattle.lane_run.proofs.lane.run_lane.Given as goal

abbrev pub invariant-loop-place : goal.invariant-loop-place
invariant-loop-place g l = record {
  so_far : LaneSoFar (IsFor g.T.Settled.problem g.T.Settled.job (g.M.ForJob.problem l.task.factory.now) l.task.mode) (λ k. g.M.LaneFactory.is_served l.task.factory.now l.fn.report.lane (name_at l.task.mode k))
      (λ k. terms_of g.T.Settled.job g.T.Settled.answer (terms_at l.task.mode l.task.limit k)) (g.C.Clock.may_read l.task.clock.now) l.place l.notes l.report;
  remember : Remember l.fn.notes l.notes;
  same : (l.report.lane ≡ l.fn.report.lane) × (l.report.jobs ≡ l.fn.report.jobs);
  faults : LaneFaults (record { starts = g.L.Launch.start_faults l.fn.berth.bay; reads = g.L.Launch.read_faults l.fn.berth.bay; holds = g.L.Launch.hold_faults l.fn.berth.bay })
      (record { starts = g.L.Launch.start_faults l.berth.bay; reads = g.L.Launch.read_faults l.berth.bay; holds = g.L.Launch.hold_faults l.berth.bay }) l.place l.report;
  starts : LaneStarts l.fn.berth.pool (g.M.LaneFactory.words l.task.factory.now l.fn.report.lane) (g.M.LaneFactory.file l.task.factory.now) (g.M.LaneFactory.stands l.task.factory.now l.fn.report.lane) (g.M.LaneFactory.ends l.task.factory.now l.fn.report.lane) (g.M.LaneFactory.proves l.task.factory.now l.fn.report.lane)
      (g.M.LaneFactory.most l.task.factory.now) (g.M.LaneFactory.most_output l.task.factory.now l.fn.report.lane) l.task.mode (g.L.Launch.told l.fn.berth.bay) (g.L.Launch.told l.berth.bay) l.place l.report;
  of : AreNotesOf l.task.cells.now l.notes;
  berth : l.berth ≡ record l.fn.berth { bay = l.berth.bay };
}
