use Rattle.std.proofs.Common.{ℕ, ◌+◌, ◌<◌, ◌≤◌, length}
use Rattle.std.specs.Prelude.{slice_index_or}
use Rattle.unit_propagation.proofs.propagator.Propagator.level_of.Given as goal

abbrev pub invariant-loop-taken : goal.invariant-loop-taken
invariant-loop-taken l = record {
  above : (i : ℕ) → l.count ≤ i + l.taken → i < length l.self-inside.limits.items → l.place < slice_index_or l.self-inside.limits.items i 0;
}
