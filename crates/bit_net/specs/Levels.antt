-- Variables by levels, as they are kept.
use Rattle.std.specs.Prelude.{ℕ, List, take, slice_index}

-- the variables one level after the other, and how many stand in the first levels
pub record LevelsOf : Type 0 where
  pub order : List ℕ
  pub ends : List ℕ

abbrev pub prefix_of : LevelsOf → ℕ → List ℕ
prefix_of l many = take (slice_index l.ends many) l.order
