use Rattle.std.proofs.Common.{subst}
use Rattle.std.specs.Prelude.{Some}
use Rattle.sby_top.specs.Ready.{back_by}
use Rattle.sby_top.specs.Waiting.{IsAt}
use Rattle.task_race.specs.Bays.{BackOf}
use Rattle.sby_top.proofs.slot.raced.Goals as goal

pub race-raced-requires-after_bounds : goal.race-raced-requires-after_bounds
race-raced-requires-after_bounds g c κs within =
    let view : g.row.L.Denot → BackOf = back_by g.L.Launch.told g.L.Launch.start_faults g.L.Launch.read_faults g.L.Launch.hold_faults in
    let q = c.requires in
    let own = subst (IsAt view (g.C.Clock.may_read c.args.clock.now) q.0 q.1 c.args.number q.2 q.3 q.4) c.in-Ready.is q.5 in
    (Some q.0, q.3.told, q.1, own.3)

pub returns-in-Ready-clause-at : goal.returns-in-Ready-clause-at
returns-in-Ready-clause-at g c = λ pool scripts got put turn at.
    let view : g.row.L.Denot → BackOf = back_by g.L.Launch.told g.L.Launch.start_faults g.L.Launch.read_faults g.L.Launch.hold_faults in
    let own = subst (IsAt view (g.C.Clock.may_read c.args.clock.now) pool scripts c.args.number got put turn) c.in-Ready.is at in
    let r = c.race-raced.ensures in
    (own.0, own.1, rw r.problem own.2, r.raced (Some pool) put.told scripts own.3)
