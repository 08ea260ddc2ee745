-- The marks on an engine line whose program writes a proof file.
use Rattle.std.specs.Prelude.{◌≡◌, ℕ, ◌+◌, Bool, cond, ◌&&◌, eqb, List, [], ◌∷◌, length, take, drop, Some, slice_get, codes, bytes_eq}
use Rattle.sby_terms.specs.declared.engine.Engine.{Engine}
use Rattle.sby_terms.specs.declared.engine.Engine.TheVariants.{Sat, Drup, Btor, Inv, Lrat, Proof, ProofBinary, Net}

-- for the path of the job's file, and for that of the proof file
abbrev pub formula_mark : List ℕ
formula_mark = codes "{cnf}"

abbrev pub proof_mark : List ℕ
proof_mark = codes "{proof}"

-- a mark stands in a word from this byte on
abbrev pub StandsAt : List ℕ → List ℕ → ℕ → Type 0
StandsAt mark word byte = take (length mark) (drop byte word) ≡ mark

-- and in the word of this number
abbrev pub StandsIn : List ℕ → List (List ℕ) → ℕ → ℕ → Type 0
StandsIn mark words number byte = (word : List ℕ) × (slice_get words number ≡ Some word) × StandsAt mark word byte

-- a mark stands exactly once over all words
abbrev pub StandsOnce : List ℕ → List (List ℕ) → Type 0
StandsOnce mark words =
    (number : ℕ) × (byte : ℕ) × StandsIn mark words number byte
    × ((other_number other_byte : ℕ) → StandsIn mark words other_number other_byte → (other_number ≡ number) × (other_byte ≡ byte))

-- both marks do
abbrev pub HasMarks : List (List ℕ) → Type 0
HasMarks words = StandsOnce formula_mark words × StandsOnce proof_mark words

-- the words of a line whose program writes a proof file have them
abbrev pub IsMarked : Engine → Type 0
IsMarked (Sat conflicts) = Unit {0}
IsMarked (Drup words) = Unit {0}
IsMarked (Btor words) = Unit {0}
IsMarked (Inv words) = Unit {0}
IsMarked (Lrat words) = Unit {0}
IsMarked (Net words) = Unit {0}
IsMarked (Proof words) = HasMarks words
IsMarked (ProofBinary words) = HasMarks words

-- how often a mark stands
abbrev pub begins : List ℕ → List ℕ → Bool
begins mark word = bytes_eq mark (take (length mark) word)

abbrev pub count_in : List ℕ → List ℕ → ℕ
count_in mark [] = 0
count_in mark (b ∷ bs) = cond (begins mark (b ∷ bs)) 1 0 + count_in mark bs

abbrev pub count : List ℕ → List (List ℕ) → ℕ
count mark [] = 0
count mark (word ∷ words) = count_in mark word + count mark words

abbrev pub are_marked : List (List ℕ) → Bool
are_marked words = eqb (count formula_mark words) 1 && eqb (count proof_mark words) 1
