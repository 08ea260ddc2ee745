-- The states and inputs of a model, and where their bits are kept.
use Rattle.std.specs.Prelude.{ℕ, ◌+◌, Bool, true, false, cond, List, [], ◌∷◌, map, Option, Some, None}
use Rattle.btor_witness.specs.declared.shape.Slot.{Slot}
use Rattle.btor_witness.specs.declared.shape.Place.{Place}

-- the states and the inputs, each in file order
pub record ShapeOf : Type 0 where
  pub states : List Slot
  pub inputs : List Slot

abbrev pub widths : List Slot → List ℕ
widths slots = map (λ s. s.width) slots

-- how many bits of it are open
abbrev pub open_width : Slot → ℕ
open_width s = cond s.is_open s.width 0

abbrev pub open_bits : List Slot → ℕ
open_bits [] = 0
open_bits (s ∷ slots) = open_width s + open_bits slots

-- where the open bits of each begin, the first at this place
abbrev pub place_of : ℕ → Slot → Place
place_of at s = record { width = s.width; first = cond s.is_open (Some at) None }

abbrev pub places_from : ℕ → List Slot → List Place
places_from at [] = []
places_from at (s ∷ slots) = place_of at s ∷ places_from (at + open_width s) slots

abbrev pub is_kept : Option ℕ → Bool
is_kept None = false
is_kept (Some at) = true

abbrev pub slot_of : Place → Slot
slot_of p = record { width = p.width; is_open = is_kept p.first }
