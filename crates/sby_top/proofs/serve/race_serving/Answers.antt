use Rattle.std.proofs.Common.{ap, map, subst, sym, ◌∙◌}
use Rattle.sby_top.specs.Judged.{racing_of}
use Rattle.sby_top.specs.Ready.{IsServing, back_by}
use Rattle.sby_top.specs.Task.{task_seen}
use Rattle.task_race.specs.Bays.{BackOf}
use Rattle.task_race.specs.Prepared.{AreNew, IsPrepared, bays_in}
use Rattle.task_race.specs.Ran.{HaveRaced, RacingOf}
use Rattle.sby_top.proofs.serve.race_serving.Goals as goal

pub race_prepared-requires-clause-prepared : goal.race_prepared-requires-clause-prepared
race_prepared-requires-clause-prepared g c = λ lifetimes lives.
    let view : g.row.L.Denot → BackOf = back_by g.L.Launch.told g.L.Launch.start_faults g.L.Launch.read_faults g.L.Launch.hold_faults in
    let task = task_seen c.args.task.now in
    let own = subst (IsServing view task c.args.problem.now c.args.number c.requires.0 c.requires.1 c.requires.2) c.in-Lanes.is c.requires.3 in
    let same = c.racing-racing.ensures ∙ ap (racing_of task c.args.problem.now c.args.number) (c.engines_of.ensures own.0 own.1) in
    (c.requires.0, subst (λ (r : RacingOf). IsPrepared r c.requires.0 c.in-Lanes.prepared) (sym same) own.2)

pub returns-in-Judged : goal.returns-in-Judged
returns-in-Judged g c = λ pool told scripts serving.
    let view : g.row.L.Denot → BackOf = back_by g.L.Launch.told g.L.Launch.start_faults g.L.Launch.read_faults g.L.Launch.hold_faults in
    subst (IsServing view (task_seen c.args.task.now) c.args.problem.now c.args.number pool told scripts) c.in-Judged.is serving

pub returns-in-Lanes : goal.returns-in-Lanes
returns-in-Lanes g c = λ pool told scripts serving.
    let view : g.row.L.Denot → BackOf = back_by g.L.Launch.told g.L.Launch.start_faults g.L.Launch.read_faults g.L.Launch.hold_faults in
    let task = task_seen c.args.task.now in
    let own = subst (IsServing view task c.args.problem.now c.args.number pool told scripts) c.in-Lanes.is serving in
    let same = c.racing-racing.ensures ∙ ap (racing_of task c.args.problem.now c.args.number) (c.engines_of.ensures own.0 own.1) in
    let prepared = subst (λ (r : RacingOf). IsPrepared r pool c.in-Lanes.prepared) (sym same) own.2 in
    let new = subst (λ n. AreNew scripts n (map view (bays_in c.in-Lanes.prepared))) (sym (ap (λ (r : RacingOf). r.task) same)) own.3 in
    let raced = c.race_prepared.result in
    (own.0, own.1, subst (λ (r : RacingOf). HaveRaced r pool (g.C.Clock.may_read c.args.clock.now) scripts raced.ran.start raced.ran.reports.items (map view raced.bays.items)) same (c.race_prepared.ensures pool scripts prepared new))
