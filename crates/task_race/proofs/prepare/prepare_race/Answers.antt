use Rattle.std.proofs.Common.{List, map, sym, subst, ◌∙◌}
use Rattle.std.specs.Prelude.{Option}
use Rattle.sby_edge.specs.Cause.{CountsOf}
use Rattle.sby_edge.specs.Child.{IsLogged, LaneOf}
use Rattle.task_race.specs.Bays.{BackOf, CameBack, counts_at, left_all, yard_at}
use Rattle.task_race.specs.Prepared.{AreNew}
use Rattle.task_race.proofs.BackLemmas.{new_bays, none_started}
use Rattle.task_race.proofs.prepare.prepare_race.Goals as goal

pub returns-in-Ok-fresh_lanes-clause-bays : goal.returns-in-Ok-fresh_lanes-clause-bays
returns-in-Ok-fresh_lanes-clause-bays g c =
    let count = λ (b : g.row.Y-Bay.Denot). counts_at (g.Y.Bay.Launch.start_faults b) (g.Y.Bay.Launch.read_faults b) (g.Y.Bay.Launch.hold_faults b) in
    let view : g.row.Y-Bay.Denot → BackOf = λ b. record { told = g.Y.Bay.Launch.told b; counts = count b } in
    subst (λ (bays : List g.row.Y-Bay.Denot). AreNew (g.Y.Yard.told c.args.yard.now) c.args.racing.now.task (map view bays)) (sym c.in-Ok-fresh_lanes.ensures.bays)
    (new_bays count g.Y.Bay.Launch.told c.args.racing.now.task c.in_ok-bays.bays.items (g.Y.Yard.told c.args.yard.now) c.in_ok-bays.ensures.fresh)

pub returns-clause-memory : goal.returns-clause-memory
returns-clause-memory g c =
    let count = λ (b : g.row.Y-Bay.Denot). counts_at (g.Y.Bay.Launch.start_faults b) (g.Y.Bay.Launch.read_faults b) (g.Y.Bay.Launch.hold_faults b) in
    let view : g.row.Y-Bay.Denot → BackOf = λ b. record { told = g.Y.Bay.Launch.told b; counts = count b } in
    let back = c.give_back.ensures in
    let before = yard_at (g.Y.Yard.told c.args.yard.now) (g.Y.Yard.started c.args.yard.now) (counts_at (g.Y.Yard.start_faults c.args.yard.now) (g.Y.Yard.read_faults c.args.yard.now) (g.Y.Yard.hold_faults c.args.yard.now)) in
    let given = c.in-Err.bays.items in
    none_started count g.Y.Bay.Launch.told c.args.racing.now.task given before
    (yard_at (g.Y.Yard.told c.give_back.new.yard) (g.Y.Yard.started c.give_back.new.yard) (counts_at (g.Y.Yard.start_faults c.give_back.new.yard) (g.Y.Yard.read_faults c.give_back.new.yard) (g.Y.Yard.hold_faults c.give_back.new.yard)))
    (subst (λ (bays : List g.row.Y-Bay.Denot). AreNew (g.Y.Yard.told c.args.yard.now) c.args.racing.now.task (map view bays)) (sym c.in-Err.ensures.given_back)
    (new_bays count g.Y.Bay.Launch.told c.args.racing.now.task c.in_ok-bays.bays.items (g.Y.Yard.told c.args.yard.now) c.in_ok-bays.ensures.fresh))
    (back.told ∙ c.take_bays.ensures.told)
    (subst (λ (counts : CountsOf). CameBack (map count given) counts (counts_at (g.Y.Yard.start_faults c.give_back.new.yard) (g.Y.Yard.read_faults c.give_back.new.yard) (g.Y.Yard.hold_faults c.give_back.new.yard))) c.take_bays.ensures.counts back.counts)
    (subst (λ (started : Option (List LaneOf)). IsLogged (left_all (map view given)) started (g.Y.Yard.started c.give_back.new.yard)) c.in_ok-bays.ensures.started back.started)

pub returns-clause-counts : goal.returns-clause-counts
returns-clause-counts g c = (returns-clause-memory g c).counts
