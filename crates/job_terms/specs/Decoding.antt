-- The choices for a run that an assignment tells.
use Rattle.std.specs.Prelude.{ℕ, Bool, false, cond, List, [], ◌∷◌, map, Option, Some, None, slice_index_or}
use Rattle.cnf_form.specs.Cnf.{LitOf, Assignment, lit_in}
use Rattle.sby_bits.specs.Rows.{Row}
use Rattle.model_core.specs.Choices.{ChoicesOf}

-- of a frame: the variable of each input that has one, and the literal that what solves the job ends here
pub record FrameOf : Type 0 where
  pub inputs : List (Option ℕ)
  pub goal : LitOf

-- the variable of each open state bit that has one, and the frames
pub record DecodingOf : Type 0 where
  pub starts : List (Option ℕ)
  pub frames : List FrameOf

-- a row's bit for each variable, at its number; a variable past its end is false
abbrev pub values_of : List Bool → Assignment
values_of bits v = slice_index_or bits v false

-- 0 where there is no variable
abbrev pub bit_of : Assignment → Option ℕ → Bool
bit_of x None = false
bit_of x (Some v) = x v

-- a row for each frame up to the first whose goal is true
abbrev pub rows_until : Assignment → List FrameOf → List Row
rows_until x [] = []
rows_until x (f ∷ fs) = map (bit_of x) f.inputs ∷ cond (lit_in x f.goal) [] (rows_until x fs)

abbrev pub decoded_by : DecodingOf → Assignment → ChoicesOf
decoded_by k x = record { starts = map (bit_of x) k.starts; inputs = rows_until x k.frames }
