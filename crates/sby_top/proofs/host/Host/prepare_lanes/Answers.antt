use Rattle.std.proofs.Common.{ap, map, subst}
use Rattle.sby_top.specs.Ready.{back_by}
use Rattle.task_race.specs.Prepared.{AreNew, IsPrepared, bays_in}
use Rattle.task_race.specs.Ran.{RacingOf}
use Rattle.sby_top.proofs.host.Host.prepare_lanes.Goals as goal

pub returns-in-Ok-clause-serving : goal.returns-in-Ok-clause-serving
returns-in-Ok-clause-serving g c = λ lanes. (
  _,
  lanes,
  subst (λ (r : RacingOf). IsPrepared r c.args.allowance.now c.in-Ok.prepared) c.racing-racing.ensures c.in-Ok.ensures.prepared,
  subst (λ n. AreNew (g.Y.Yard.told c.args.self.now.yard.now) n (map (back_by g.Y.Bay.Launch.told g.Y.Bay.Launch.start_faults g.Y.Bay.Launch.read_faults g.Y.Bay.Launch.hold_faults) (bays_in c.in-Ok.prepared)))
      (ap (λ (r : RacingOf). r.task) c.racing-racing.ensures) c.in-Ok.ensures.bays,
)
