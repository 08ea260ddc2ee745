-- The lengths of choices that are spread.
use Rattle.std.proofs.Common.{◌≡◌, ◌∙◌, List, Bool, length, map, arith}
use Rattle.std.proofs.lemmas.List.{length-map}
use Rattle.std.proofs.lemmas.List.Elements.{All-map}
use Rattle.sby_bits.specs.Rows.{Row}
use Rattle.model_core.specs.Choices.{AreChoicesFor, ChoicesOf, open_states}
use Rattle.model_core.specs.Shape.{ModelOf}
use Rattle.model_core.proofs.Lists.{all_from}
use Rattle.task_net.specs.Spreading.{spread_bits, spread_choices}
use Rattle.task_net.proofs.Spreads.{spread-length}

pub spread-fits : (m : ModelOf) (starts inputs : List Bool) (c : ChoicesOf) → length starts ≡ length (open_states m) → length inputs ≡ length m.inputs → AreChoicesFor m (spread_choices starts inputs c)
spread-fits m starts inputs c s i = record {
  starts = spread-length starts c.starts ∙ s;
  inputs =
      All-map (λ (row : Row). length row ≡ length m.inputs) (spread_bits inputs) c.inputs
      (all_from (λ (row : Row). length (spread_bits inputs row) ≡ length m.inputs) c.inputs (λ k row g. spread-length inputs row ∙ i));
}
