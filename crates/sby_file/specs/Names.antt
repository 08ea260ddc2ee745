-- Names among others.
use Rattle.std.specs.Prelude.{ℕ, Bool, cond, List, [], ◌∷◌, ◌++◌, bytes_eq}
use Rattle.std.specs.List.{list_any}

-- whether a name is one of these
abbrev pub has : List (List ℕ) → List ℕ → Bool
has names name = list_any (bytes_eq name) names

-- the names and this one, once
abbrev pub with_name : List (List ℕ) → List ℕ → List (List ℕ)
with_name names name = cond (has names name) names (names ++ name ∷ [])
