use Rattle.std.proofs.Common.{◌≡◌, ◌++◌, List, map, vec_len}
use Rattle.sby_edge.specs.Child.{IsLogged}
use Rattle.task_race.specs.Bays.{CameBack, counts_at, left_all}
use Rattle.task_race.proofs.bays.give_back.Given as goal

abbrev pub decreases-loop-bay : goal.decreases-loop-bay
decreases-loop-bay g l = vec_len l.left

abbrev pub invariant-loop-bay : goal.invariant-loop-bay
invariant-loop-bay g l = record {
  told : g.Y.Yard.told l.yard ≡ g.Y.Yard.told l.fn.yard;
  counts : (given : List g.row.Y-Bay.Denot) × (l.fn.bays.items ≡ l.left.items ++ given)
      × IsLogged (left_all (map (λ b. record { told = g.Y.Bay.Launch.told b; counts = counts_at (g.Y.Bay.Launch.start_faults b) (g.Y.Bay.Launch.read_faults b) (g.Y.Bay.Launch.hold_faults b) }) given)) (g.Y.Yard.started l.fn.yard) (g.Y.Yard.started l.yard)
      × CameBack (map (λ b. counts_at (g.Y.Bay.Launch.start_faults b) (g.Y.Bay.Launch.read_faults b) (g.Y.Bay.Launch.hold_faults b)) given)
      (counts_at (g.Y.Yard.start_faults l.fn.yard) (g.Y.Yard.read_faults l.fn.yard) (g.Y.Yard.hold_faults l.fn.yard))
      (counts_at (g.Y.Yard.start_faults l.yard) (g.Y.Yard.read_faults l.yard) (g.Y.Yard.hold_faults l.yard));
}
