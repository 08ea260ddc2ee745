-- The variables of a slice at the places of the whole model.
use Rattle.std.specs.Prelude.{ℕ, Bool, true, false, List, [], ◌∷◌, map, Option, None}
use Rattle.sby_bits.specs.Rows.{Row}
use Rattle.model_core.specs.Choices.{ChoicesOf}
use Rattle.job_terms.specs.Decoding.{DecodingOf}

-- where a place is kept the next of the variables, where it isn't none
abbrev pub spread : List Bool → List (Option ℕ) → List (Option ℕ)
spread [] vars = []
spread (false ∷ kept) vars = None ∷ spread kept vars
spread (true ∷ kept) [] = None ∷ spread kept []
spread (true ∷ kept) (v ∷ vars) = v ∷ spread kept vars

-- by which open state bits are kept, and which inputs
abbrev pub spread_decoding : List Bool → List Bool → DecodingOf → DecodingOf
spread_decoding starts inputs k = record {
  starts = spread starts k.starts;
  frames = map (λ f. record { inputs = spread inputs f.inputs; goal = f.goal }) k.frames;
}

-- a row of a slice at the places of the whole model: the next of its bits where a place is kept, else 0
abbrev pub spread_bits : List Bool → Row → Row
spread_bits [] row = []
spread_bits (false ∷ kept) row = false ∷ spread_bits kept row
spread_bits (true ∷ kept) [] = false ∷ spread_bits kept []
spread_bits (true ∷ kept) (b ∷ row) = b ∷ spread_bits kept row

abbrev pub spread_choices : List Bool → List Bool → ChoicesOf → ChoicesOf
spread_choices starts inputs c = record { starts = spread_bits starts c.starts; inputs = map (spread_bits inputs) c.inputs }
