use Rattle.std.proofs.Common.{List, map, sym, subst}
use Rattle.task_race.specs.Bays.{BackOf, counts_at, yard_at}
use Rattle.task_race.specs.Prepared.{AreNew}
use Rattle.task_race.proofs.BackLemmas.{none_started}
use Rattle.task_race.proofs.prepare.cancel_race.Goals as goal

pub returns-clause-none : goal.returns-clause-none
returns-clause-none g c = λ task new.
    let count = λ (b : g.row.Y-Bay.Denot). counts_at (g.Y.Bay.Launch.start_faults b) (g.Y.Bay.Launch.read_faults b) (g.Y.Bay.Launch.hold_faults b) in
    let view : g.row.Y-Bay.Denot → BackOf = λ b. record { told = g.Y.Bay.Launch.told b; counts = count b } in
    let back = c.give_back.ensures in
    none_started count g.Y.Bay.Launch.told task c.spare_lanes.result.items
    (yard_at (g.Y.Yard.told c.args.yard.now) (g.Y.Yard.started c.args.yard.now) (counts_at (g.Y.Yard.start_faults c.args.yard.now) (g.Y.Yard.read_faults c.args.yard.now) (g.Y.Yard.hold_faults c.args.yard.now)))
    (yard_at (g.Y.Yard.told c.give_back.new.yard) (g.Y.Yard.started c.give_back.new.yard) (counts_at (g.Y.Yard.start_faults c.give_back.new.yard) (g.Y.Yard.read_faults c.give_back.new.yard) (g.Y.Yard.hold_faults c.give_back.new.yard)))
    (subst (λ (bays : List g.row.Y-Bay.Denot). AreNew (g.Y.Yard.told c.args.yard.now) task (map view bays)) (sym c.spare_lanes.ensures) new) back.told back.counts back.started
