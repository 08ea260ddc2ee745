use Rattle.std.proofs.Common.{◌<◌, length, sym, ap, subst, ◌∙◌, arith}
use Rattle.race_core.specs.Asking.{name_at, terms_of}
use Rattle.lane_run.specs.Asked.{IsFor, terms_at}
use Rattle.std.specs.Prelude.{slice_index_or}
use Rattle.lane_berth.specs.Berths.{IsIdle}
use Rattle.lane_run.specs.Done.{LaneFaults, LaneStops}
use Rattle.lane_run.specs.Raced.{HasDone}
use Rattle.lane_run.specs.Started.{LaneStarts}
use Rattle.lane_run.specs.declared.racing.Lane.{Lane}
use Rattle.lane_run.proofs.racing.run_lanes.Goals as goal

pub returns-clause-done : goal.returns-clause-done
returns-clause-done g c = λ k d lt.
    let t = c.args.task.now in
    let less : k < length c.args.lanes.now = omega (lt, arith) in
    let at = (c.for_each_mut.ensures k d less).1 in
    subst (λ (l : Lane g.row.L.Denot g.row.T.Denot). HasDone (IsFor g.T.Settled.problem g.T.Settled.job (g.M.ForJob.problem t.factory.now) t.mode) (λ i k. g.M.LaneFactory.is_served t.factory.now i (name_at t.mode k))
    (λ k. terms_of g.T.Settled.job g.T.Settled.answer (terms_at t.mode t.limit k)) (g.C.Clock.may_read t.clock.now) t.cells.now l.report l.notes) at.left at.call.0

pub returns-clause-lanes : goal.returns-clause-lanes
returns-clause-lanes g c = λ k d lt.
    let at = (c.for_each_mut.ensures k d lt).1 in
    sym (ap (λ (l : Lane g.row.L.Denot g.row.T.Denot). l.report.lane) at.left) ∙ (at.call.1.0 ∙ ap (λ (l : Lane g.row.L.Denot g.row.T.Denot). l.report.lane) at.argument_is)

pub returns-clause-faults : goal.returns-clause-faults
returns-clause-faults g c = λ k d lt.
    let at = (c.for_each_mut.ensures k d lt).1 in
    let n = length c.args.task.now.cells.now in
    subst (λ (l : Lane g.row.L.Denot g.row.T.Denot). LaneFaults (record { starts = g.L.Launch.start_faults l.bay.bay; reads = g.L.Launch.read_faults l.bay.bay; holds = g.L.Launch.hold_faults l.bay.bay }) (record { starts = g.L.Launch.start_faults (slice_index_or c.for_each_mut.new.s k d).bay.bay; reads = g.L.Launch.read_faults (slice_index_or c.for_each_mut.new.s k d).bay.bay; holds = g.L.Launch.hold_faults (slice_index_or c.for_each_mut.new.s k d).bay.bay }) n (slice_index_or c.for_each_mut.new.s k d).report) at.argument_is
    (subst (λ (l : Lane g.row.L.Denot g.row.T.Denot). LaneFaults (record { starts = g.L.Launch.start_faults at.argument.now.bay.bay; reads = g.L.Launch.read_faults at.argument.now.bay.bay; holds = g.L.Launch.hold_faults at.argument.now.bay.bay }) (record { starts = g.L.Launch.start_faults l.bay.bay; reads = g.L.Launch.read_faults l.bay.bay; holds = g.L.Launch.hold_faults l.bay.bay }) n l.report) at.left at.call.1.1.0)

pub returns-clause-starts : goal.returns-clause-starts
returns-clause-starts g c = λ k d lt.
    let at = (c.for_each_mut.ensures k d lt).1 in
    let n = length c.args.task.now.cells.now in
    let m = c.args.task.now.factory.now in
    let told = g.L.Launch.told in
    subst (λ (l : Lane g.row.L.Denot g.row.T.Denot). LaneStarts l.bay.pool (g.M.LaneFactory.words m l.report.lane) (g.M.LaneFactory.file m) (g.M.LaneFactory.stands m l.report.lane) (g.M.LaneFactory.ends m l.report.lane) (g.M.LaneFactory.proves m l.report.lane) (g.M.LaneFactory.most m) (g.M.LaneFactory.most_output m l.report.lane) c.args.task.now.mode
    (told l.bay.bay) (told (slice_index_or c.for_each_mut.new.s k d).bay.bay) n (slice_index_or c.for_each_mut.new.s k d).report) at.argument_is
    (subst (λ (l : Lane g.row.L.Denot g.row.T.Denot). LaneStarts at.argument.now.bay.pool (g.M.LaneFactory.words m at.argument.now.report.lane) (g.M.LaneFactory.file m) (g.M.LaneFactory.stands m at.argument.now.report.lane) (g.M.LaneFactory.ends m at.argument.now.report.lane) (g.M.LaneFactory.proves m at.argument.now.report.lane) (g.M.LaneFactory.most m) (g.M.LaneFactory.most_output m at.argument.now.report.lane) c.args.task.now.mode
    (told at.argument.now.bay.bay) (told l.bay.bay) n l.report) at.left at.call.1.1.1.0)

pub returns-clause-stopped : goal.returns-clause-stopped
returns-clause-stopped g c = λ k d lt.
    let t = c.args.task.now in
    let less : k < length c.args.lanes.now = omega (lt, arith) in
    let at = (c.for_each_mut.ensures k d less).1 in
    subst (λ (l : Lane g.row.L.Denot g.row.T.Denot). LaneStops (g.C.Clock.may_read t.clock.now) t.limit (length t.cells.now) l.report) at.left at.call.1.1.1.1.0

pub returns-clause-idle : goal.returns-clause-idle
returns-clause-idle g c = λ k d lt.
    let less : k < length c.args.lanes.now = omega (lt, arith) in
    let at = (c.for_each_mut.ensures k d less).1 in
    subst (λ (l : Lane g.row.L.Denot g.row.T.Denot). IsIdle l.bay) at.left at.call.1.1.1.1.1
