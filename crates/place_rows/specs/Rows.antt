-- Rows of places that stand one after the other in a list.
use Rattle.std.specs.Prelude.{◌≡◌, ℕ, ◌-◌, ◌≤◌, List, [], ◌∷◌, Some, All, Contains, length, take, drop, slice_get, slice_index_or}
use Rattle.std.specs.List.{concat}

-- the rows that end at these places of a list, where the list begins at the place `first`
abbrev pub rows_from : ℕ → List ℕ → List ℕ → List (List ℕ)
rows_from first [] places = []
rows_from first (end ∷ ends) places = take (end - first) places ∷ rows_from end ends (drop (end - first) places)

-- the ends rise from one place to another
abbrev pub AreEnds : ℕ → ℕ → List ℕ → Type 0
AreEnds first last [] = first ≡ last
AreEnds first last (end ∷ ends) = (first ≤ end) × AreEnds end last ends

-- where row k begins: where the one before it ends
abbrev pub start_of : List ℕ → ℕ → ℕ
start_of ends k = slice_index_or (0 ∷ ends) k 0

-- the rows are of places of this list, from 1 to 4096 in each, and no place stands in them twice
pub record AreRowsOf (all : List ℕ) (rows : List (List ℕ)) : Type 0 where
  pub inside : (p : ℕ) → Contains (concat rows) p → Contains all p
  pub once : (i j p : ℕ) → slice_get (concat rows) i ≡ Some p → slice_get (concat rows) j ≡ Some p → i ≡ j
  pub wide : All (λ row. (1 ≤ length row) × (length row ≤ 4096)) rows
