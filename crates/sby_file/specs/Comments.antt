-- Where a comment begins.
use Rattle.std.specs.Prelude.{◌≡◌, ◌⊎◌, ℕ, true, List, [], ◌∷◌, ◌++◌}
use Rattle.sby_file.specs.Text.{is_blank}

-- a comment may begin after these bytes: there are none, or the last is white space
abbrev pub MayComment : List ℕ → Type 0
MayComment front = (front ≡ []) ⊎ ((before : List ℕ) × (b : ℕ) × (front ≡ before ++ b ∷ []) × (is_blank b ≡ true))

-- some `#` of a line begins a comment
abbrev pub HasComment : List ℕ → Type 0
HasComment text = (front : List ℕ) × (back : List ℕ) × (text ≡ front ++ 35 ∷ back) × MayComment front
