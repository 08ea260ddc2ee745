use Rattle.std.proofs.Common.{List, Option, length, ap, subst, ◌∙◌}
use Rattle.jobs_pool.specs.Places.{PoolOf}
use Rattle.lane_run.specs.Started.{LaneStarts}
use Rattle.std.specs.Prelude.{slice_get}
use Rattle.lane_run.proofs.racing.race.Goals as goal

pub returns-clause-faults : goal.returns-clause-faults
returns-clause-faults g c = λ i b d q was is told.
    c.race_fresh.ensures.faults i b d q (ap (λ (l : List g.row.L.Denot). slice_get l i) c.in_ok-fresh.ensures.bays ∙ was) is told

pub returns-clause-starts : goal.returns-clause-starts
returns-clause-starts g c = λ i b d q was is told.
    let m = c.args.task.now.factory.now in
    let t = c.args.task.now in
    subst (λ (p : Option PoolOf). LaneStarts p (g.M.LaneFactory.words m i) (g.M.LaneFactory.file m) (g.M.LaneFactory.stands m i) (g.M.LaneFactory.ends m i) (g.M.LaneFactory.proves m i) (g.M.LaneFactory.most m) (g.M.LaneFactory.most_output m i) t.mode (g.L.Launch.told b) (g.L.Launch.told d) (length t.cells.now) q) (c.in_ok-fresh.ensures.pool ∙ c.none-alone.ensures)
    (c.race_fresh.ensures.starts i b d q (ap (λ (l : List g.row.L.Denot). slice_get l i) c.in_ok-fresh.ensures.bays ∙ was) is told)
