-- What is seen in the bytes of a stream.
use Rattle.std.specs.Prelude.{◌≡◌, ◌⊎◌, ℕ, false, eqb, List, [], ◌∷◌, ◌++◌, length}
use Rattle.std.specs.List.{AllByRecursion}
use Rattle.btor_witness.specs.Shape.{ShapeOf}
use Rattle.btor_witness.specs.Grammar.{Begins, IsLine, IsWitness, SatLine, WitnessOf}
use Rattle.btor_witness.specs.declared.spot.Seen.{Seen}
use Rattle.btor_witness.specs.declared.spot.Seen.TheVariants.{More, Whole, Unknown, EarlyEnd, BadWitness}

abbrev pub NoFeed : List ℕ → Type 0
NoFeed bytes = AllByRecursion (λ b. eqb b 10 ≡ false) bytes

-- lines, each with its line feed
abbrev pub text_of : List (List ℕ) → List ℕ
text_of [] = []
text_of (line ∷ lines) = line ++ 10 ∷ text_of lines

-- the bytes begin with these whole lines, and these bytes follow
pub record IsCut (bytes : List ℕ) (lines : List (List ℕ)) (rest : List ℕ) : Type 0 where
  pub are : bytes ≡ text_of lines ++ rest
  pub no_feed : AllByRecursion NoFeed lines

-- whole lines of the bytes are a witness; what follows isn't read
abbrev pub Holds : ShapeOf → List ℕ → WitnessOf → Type 0
Holds shape bytes x = (lines : List (List ℕ)) × (rest : List ℕ) × IsCut bytes lines rest × IsWitness shape lines x

-- so are they with the last line, which has no line feed
abbrev pub EndsWith : ShapeOf → List ℕ → WitnessOf → Type 0
EndsWith shape bytes x = (lines : List (List ℕ)) × (last : List ℕ) × IsCut bytes lines last × AllByRecursion (λ b. eqb b 10 ≡ false) last × IsWitness shape (lines ++ last ∷ []) x

-- byte number n is the first of a whole line with which no witness goes on: some begins with the lines before it, which hold none
pub record IsBadAt (shape : ShapeOf) (bytes : List ℕ) (n : ℕ) : Type 0 where
  pub lines : List (List ℕ)
  pub line : List ℕ
  pub rest : List ℕ
  pub cut : IsCut bytes lines (line ++ 10 ∷ rest)
  pub no_feed : NoFeed line
  pub place : n ≡ length (text_of lines)
  pub begins : Begins shape lines
  pub none : (x : WitnessOf) → Holds shape (text_of lines) x → ⊥
  pub past : Begins shape (lines ++ line ∷ []) → ⊥

-- a line, the last one too, is `sat`
pub record HasSat (bytes : List ℕ) : Type 0 where
  pub lines : List (List ℕ)
  pub line : List ℕ
  pub rest : List ℕ
  pub cut : IsCut bytes lines (line ++ rest)
  pub no_feed : NoFeed line
  pub ends : (rest ≡ []) ⊎ ((more : List ℕ) × (rest ≡ 10 ∷ more))
  pub sat : IsLine line SatLine

-- what a stream is that begins with the bytes
abbrev pub IsSeen : ShapeOf → List ℕ → Seen → Type 0
IsSeen shape bytes More = ((x : WitnessOf) → Holds shape bytes x → ⊥) × ((n : ℕ) → IsBadAt shape bytes n → ⊥)
IsSeen shape bytes Whole = (x : WitnessOf) × Holds shape bytes x
IsSeen shape bytes Unknown = ⊥
IsSeen shape bytes (EarlyEnd n) = ⊥
IsSeen shape bytes (BadWitness n) = IsBadAt shape bytes n

-- what a stream is that has these bytes and no more
abbrev pub IsFate : ShapeOf → List ℕ → Seen → Type 0
IsFate shape bytes More = ⊥
IsFate shape bytes Whole = (x : WitnessOf) × (Holds shape bytes x ⊎ EndsWith shape bytes x)
IsFate shape bytes Unknown = HasSat bytes → ⊥
IsFate shape bytes (EarlyEnd n) =
    (n ≡ length bytes) × HasSat bytes × ((x : WitnessOf) → (Holds shape bytes x ⊎ EndsWith shape bytes x) → ⊥) × ((k : ℕ) → IsBadAt shape bytes k → ⊥)
IsFate shape bytes (BadWitness n) = IsBadAt shape bytes n
