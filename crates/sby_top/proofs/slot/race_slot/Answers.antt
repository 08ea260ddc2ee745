use Rattle.std.proofs.Common.{◌≡◌}
use Rattle.std.specs.Prelude.{Some}
use Rattle.sby_top.specs.Ready.{back_by}
use Rattle.sby_top.specs.Waiting.{IsAt}
use Rattle.task_race.specs.Bays.{BackOf}
use Rattle.sby_top.proofs.SlotLemmas.{held_is, turn_held}
use Rattle.sby_top.proofs.slot.race_slot.Goals as goal

pub raced-requires-after_bounds : goal.raced-requires-after_bounds
raced-requires-after_bounds g c κs within =
    let view : g.row.L.Denot → BackOf = back_by g.L.Launch.told g.L.Launch.start_faults g.L.Launch.read_faults g.L.Launch.hold_faults in
    let value = c.in-Some.ensures.value in
    let is : c.args.slot.now.stage ≡ Some c.in-Some.stage = cc in
    turn_held view (g.C.Clock.may_read c.args.clock.now) c.args.slot.now c.in-Some.stage is c.requires

pub returns-clause-at : goal.returns-clause-at
returns-clause-at g c = λ pool scripts got put turn holds.
    let view : g.row.L.Denot → BackOf = back_by g.L.Launch.told g.L.Launch.start_faults g.L.Launch.read_faults g.L.Launch.hold_faults in
    let value = c.in-Some.ensures.value in
    let is : c.args.slot.now.stage ≡ Some c.in-Some.stage = cc in
    (c.raced.result, c.replace.ensures.after, c.raced.ensures.at pool scripts got put turn (held_is c.args.slot.now (IsAt view (g.C.Clock.may_read c.args.clock.now) pool scripts c.args.slot.now.number got put turn) c.in-Some.stage is holds))
