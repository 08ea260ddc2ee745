-- What the frames of a witness choose for a run.
use Rattle.std.specs.Prelude.{ℕ, ◌+◌, false, cond, eqb, List, [], ◌∷◌, ◌++◌, map, flat_map, replicate, Option, Some, None}
use Rattle.sby_bits.specs.Rows.{Row}
use Rattle.btor_witness.specs.Shape.{ShapeOf, open_bits}
use Rattle.btor_witness.specs.Grammar.{AssignOf, FrameOf}
use Rattle.btor_witness.specs.declared.shape.Slot.{Slot}

-- the last row for this number, or the row r where there is none
abbrev pub last_row : ℕ → Row → List AssignOf → Row
last_row n r [] = r
last_row n r (a ∷ rows) = last_row n (cond (eqb a.number n) a.row r) rows

-- the open bits, from number n on: as they are assigned, else 0
abbrev pub chosen : ℕ → List Slot → List AssignOf → Row
chosen n [] rows = []
chosen n (s ∷ slots) rows = cond s.is_open (last_row n (replicate s.width false) rows) [] ++ chosen (n + 1) slots rows

abbrev pub rows_in : Option (List AssignOf) → List AssignOf
rows_in None = []
rows_in (Some rows) = rows

-- the bits with which open states start: those of the first frame
abbrev pub starts_of : ShapeOf → List FrameOf → Row
starts_of shape [] = replicate (open_bits shape.states) false
starts_of shape (f ∷ fs) = chosen 0 shape.states (rows_in f.states)

-- the bits of the inputs in a frame
abbrev pub inputs_in : ShapeOf → FrameOf → Row
inputs_in shape f = chosen 0 shape.inputs (rows_in f.inputs)

-- and in frames, one after the other
abbrev pub inputs_of : ShapeOf → List FrameOf → Row
inputs_of shape fs = flat_map (inputs_in shape) fs

-- a bit for each open state bit, and for each frame a row with a bit for each input bit
pub record ChoicesOf : Type 0 where
  pub starts : Row
  pub inputs : List Row

abbrev pub choices_of : ShapeOf → List FrameOf → ChoicesOf
choices_of shape fs = record { starts = starts_of shape fs; inputs = map (inputs_in shape) fs }
