use Rattle.std.proofs.Common.{◌≡◌, ℕ, ◌<◌, length, take}
use Rattle.std.specs.Prelude.{slice_index}
use Rattle.std.specs.List.{flat_map}
use Rattle.word_model.specs.Built.{sides}
use Rattle.word_model.proofs.nodes.connect_pairs.Given as goal

abbrev pub invariant-loop-place : goal.invariant-loop-place
invariant-loop-place l = record {
  all : l.pairs.items ≡ flat_map (sides l.design) (take l.place l.design.connects);
  size : length l.first.items ≡ l.place;
  each : (i : ℕ) → i < l.place → slice_index l.first.items i ≡ length (flat_map (sides l.design) (take i l.design.connects));
}
