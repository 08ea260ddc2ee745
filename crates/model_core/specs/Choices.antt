-- What a run of a model leaves open, and what is chosen for it.
use Rattle.std.specs.Prelude.{◌≡◌, ℕ, ◌<◌, Bool, List, [], ◌∷◌, length, Option, Some, None, slice_get, All}
use Rattle.sby_bits.specs.Rows.{Row}
use Rattle.model_core.specs.Shape.{ModelOf, states}
use Rattle.model_core.specs.Meaning.{Cycle, Run, row_at}

-- of places with their start digits those without one
abbrev pub without_digit : List ℕ → List (Option Bool) → List ℕ
without_digit [] digits = []
without_digit (p ∷ ps) [] = []
without_digit (p ∷ ps) (Some x ∷ digits) = without_digit ps digits
without_digit (p ∷ ps) (None ∷ digits) = p ∷ without_digit ps digits

-- the state bits that may start with either value
abbrev pub open_states : ModelOf → List ℕ
open_states m = without_digit (states m) m.starts

-- what state bits start with: each its digit, else the next of the chosen bits
abbrev pub start_row : List (Option Bool) → Row → Row
start_row [] row = []
start_row (Some x ∷ digits) row = x ∷ start_row digits row
start_row (None ∷ digits) [] = []
start_row (None ∷ digits) (b ∷ row) = b ∷ start_row digits row

-- a bit for each open state bit, and for each cycle a row with a bit for each input
pub record ChoicesOf : Type 0 where
  pub starts : Row
  pub inputs : List Row

pub record AreChoicesFor (m : ModelOf) (c : ChoicesOf) : Type 0 where
  pub starts : length c.starts ≡ length (open_states m)
  pub inputs : All (λ row. length row ≡ length m.inputs) c.inputs

-- a run with these choices, of one cycle for each row of inputs
pub record Plays (m : ModelOf) (c : ChoicesOf) (cs : ℕ → Cycle) : Type 0 where
  pub run : Run m (length c.inputs) cs
  pub starts : row_at (cs 0) (open_states m) ≡ c.starts
  pub inputs : (t : ℕ) (row : Row) → slice_get c.inputs t ≡ Some row → row_at (cs t) m.inputs ≡ row

-- the same at all places
abbrev pub Agree : ModelOf → Cycle → Cycle → Type 0
Agree m c e = (p : ℕ) → p < m.size → c p ≡ e p
