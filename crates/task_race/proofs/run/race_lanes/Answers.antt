use Rattle.std.proofs.Common.{subst}
use Rattle.lane_run.specs.Done.{LaneFaults}
use Rattle.std.proofs.Common.{ℕ}
use Rattle.task_race.specs.Bays.{counts_at}
use Rattle.task_race.specs.Ran.{racing_seen}
use Rattle.lane_run.specs.Raced.{bays_of, pool_of}
use Rattle.std.proofs.Common.{length}
use Rattle.task_race.proofs.RanLemmas.{raced_consistent, raced_done, raced_starts}
use Rattle.task_race.proofs.run.race_lanes.Goals as goal

pub returns-clause-consistent : goal.returns-clause-consistent
returns-clause-consistent g c =
    raced_consistent (racing_seen c.args.racing.now) c.args.start c.mode.result c.unwrap_or.result (length c.args.cells.now) c.mode.ensures c.unwrap_or.ensures c.requires.cells
    (length (bays_of c.args.lanes)) c.race_fresh.result.reports.items c.requires.lanes c.race_fresh.ensures.consistent

pub returns-clause-done : goal.returns-clause-done
returns-clause-done g c =
    raced_done (racing_seen c.args.racing.now) c.args.start c.mode.result c.unwrap_or.result (length c.args.cells.now) c.mode.ensures c.unwrap_or.ensures c.requires.cells
    (g.C.Clock.may_read c.args.clock.now) c.race_fresh.result.notes c.race_fresh.result.reports.items c.race_fresh.ensures.done

pub returns-clause-faults : goal.returns-clause-faults
returns-clause-faults g c = λ i b d q was is told.
    let count = λ (b : g.row.L.Denot). counts_at (g.L.Launch.start_faults b) (g.L.Launch.read_faults b) (g.L.Launch.hold_faults b) in
    subst (λ (n : ℕ). LaneFaults (count b) (count d) n q) c.requires.cells (c.race_fresh.ensures.faults i b d q was is told)

pub returns-clause-starts : goal.returns-clause-starts
returns-clause-starts g c = λ i b d q was is told.
    raced_starts (racing_seen c.args.racing.now) c.args.start c.mode.result c.unwrap_or.result (length c.args.cells.now) c.mode.ensures c.unwrap_or.ensures c.requires.cells
    (pool_of c.args.lanes) (g.L.Launch.told b) (g.L.Launch.told d) i q (c.race_fresh.ensures.starts i b d q was is told)
