use Rattle.std.proofs.Common.{◌≡◌, ℕ, ◌+◌, ◌<◌, length}
use Rattle.std.specs.Prelude.{slice_index}
use Rattle.design_core.specs.Places.{places}
use Rattle.design_meaning.specs.Runs.{kept_offset}
use Rattle.word_model.proofs.build.kept_offsets.Given as goal

abbrev pub invariant-loop-cell : goal.invariant-loop-cell
invariant-loop-cell l = record {
  size : length l.offsets.items ≡ l.cell-index;
  next : l.next ≡ places l.design + kept_offset l.design l.cell-index;
  each : (i : ℕ) → i < l.cell-index → slice_index l.offsets.items i ≡ places l.design + kept_offset l.design i;
}
