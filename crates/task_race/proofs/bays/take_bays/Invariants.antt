use Rattle.std.proofs.Common.{◌≡◌, ◌≤◌, ℕ, Some, length}
use Rattle.std.specs.Prelude.{slice_get, vec_capacity}
use Rattle.sby_edge.specs.Child.{new_bay}
use Rattle.task_race.specs.Bays.{counts_at, none_failed}
use Rattle.task_race.proofs.bays.take_bays.Given as goal

abbrev pub invariant-loop-lane : goal.invariant-loop-lane
invariant-loop-lane g l = record {
  told : g.Y.Yard.told l.yard ≡ g.Y.Yard.told l.fn.yard;
  started : g.Y.Yard.started l.yard ≡ g.Y.Yard.started l.fn.yard;
  counts : counts_at (g.Y.Yard.start_faults l.yard) (g.Y.Yard.read_faults l.yard) (g.Y.Yard.hold_faults l.yard) ≡ counts_at (g.Y.Yard.start_faults l.fn.yard) (g.Y.Yard.read_faults l.fn.yard) (g.Y.Yard.hold_faults l.fn.yard);
  many : length l.bays.items ≡ l.lane;
  room : l.lanes ≤ vec_capacity l.bays;
  fresh : (i : ℕ) (b : g.row.Y-Bay.Denot) → slice_get l.bays.items i ≡ Some b
      → (g.Y.Bay.Launch.told b ≡ new_bay (g.Y.Yard.told l.fn.yard) l.task i) × (counts_at (g.Y.Bay.Launch.start_faults b) (g.Y.Bay.Launch.read_faults b) (g.Y.Bay.Launch.hold_faults b) ≡ none_failed);
}
