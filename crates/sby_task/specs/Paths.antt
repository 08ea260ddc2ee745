-- The name in a path.
use Rattle.std.specs.Prelude.{◌≡◌, ◌⊎◌, ℕ, List, [], ◌∷◌, ◌++◌, Contains}

-- this part of the path stands after its last `/`, or is all of it where it has none
abbrev pub IsLastPart : List ℕ → List ℕ → Type 0
IsLastPart path part =
    (front : List ℕ) × (path ≡ front ++ part) × (Contains part 47 → ⊥) × ((front ≡ []) ⊎ ((before : List ℕ) × (front ≡ before ++ 47 ∷ [])))
