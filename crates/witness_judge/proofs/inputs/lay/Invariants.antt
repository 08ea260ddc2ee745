use Rattle.std.proofs.Common.{◌≡◌, ◌<◌, ◌≤◌, ℕ, drop, false, length}
use Rattle.std.specs.Prelude.{slice_index_or}
use Rattle.witness_judge.specs.Choosing.{bit_for}
use Rattle.witness_judge.proofs.inputs.lay.Given as goal

abbrev pub invariant-loop-left : goal.invariant-loop-left
invariant-loop-left l = record {
  size : length l.values ≡ length l.fn.values;
  few : l.left ≤ length l.read;
  laid : (p : ℕ) → p < length l.values → slice_index_or l.values p false ≡ bit_for (drop l.left l.read) (drop l.left l.row) p;
}

abbrev pub decreases-loop-left : goal.decreases-loop-left
decreases-loop-left l = l.left
