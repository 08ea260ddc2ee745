-- What is started for an engine's words.
use Rattle.std.specs.Prelude.{◌≡◌, ◌⊎◌, ℕ, List, ◌∷◌, ◌++◌, codes}

-- the names of this repository's engines
abbrev pub IsOwn : List ℕ → Type 0
IsOwn word = (word ≡ codes "cdcl_program") ⊎ (word ≡ codes "pdr_program")

-- the program that is run for the first word: that word, or the file of that name in a folder; for the name of an engine of this
-- repository it may be any
abbrev pub IsProgram : List ℕ → List ℕ → Type 0
IsProgram word program = (IsOwn word → ⊥) → (program ≡ word) ⊎ ((folder : List ℕ) × (program ≡ folder ++ 47 ∷ word))
