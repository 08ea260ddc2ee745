-- The text of a pair: comment lines with its literals, then its formula in DIMACS.
use Rattle.std.specs.Prelude.{◌≡◌, ℕ, ◌+◌, ◌≤◌, List, [], ◌∷◌, ◌++◌, length, drop, Option, Some, None, slice_get, codes, decimal}
use Rattle.cnf_form.specs.Cnf.{LitOf}
use Rattle.cnf_form.specs.Dimacs.{body_text, clause_text, dimacs_text, literal_text}
use Rattle.pair_form.specs.Pair.{PairOf}
use Rattle.pair_form.specs.declared.pair.BitLits.{BitLits}
use Rattle.pair_form.specs.declared.pieces.Front.{Front}
use Rattle.pair_form.specs.declared.pieces.Place.{Place}
use Rattle.pair_form.specs.declared.pieces.Place.TheVariants.{Bit, Start, Next, Bad, Head, Literal, End}

-- a state bit's line: its number and its literals in both cycles
abbrev pub bit_text : ℕ → BitLits → List ℕ
bit_text number b = codes "c bit " ++ (decimal number ++ 32 ∷ (literal_text b.first ++ 32 ∷ (literal_text b.second ++ 10 ∷ [])))

-- those of the bits from this number on that have literals
abbrev pub bits_text : ℕ → List (Option BitLits) → List ℕ
bits_text number [] = []
bits_text number (None ∷ bits) = bits_text (number + 1) bits
bits_text number (Some b ∷ bits) = bit_text number b ++ bits_text (number + 1) bits

abbrev pub named_text : List ℕ → LitOf → List ℕ
named_text name l = name ++ (literal_text l ++ 10 ∷ [])

abbrev pub bad_text : PairOf → List ℕ
bad_text p = named_text (codes "c bad ") p.bad ++ dimacs_text p.formula

abbrev pub next_text : PairOf → List ℕ
next_text p = named_text (codes "c next ") p.next ++ bad_text p

abbrev pub start_text : PairOf → List ℕ
start_text p = named_text (codes "c start ") p.start ++ next_text p

-- all of it
abbrev pub pair_text : PairOf → List ℕ
pair_text p = bits_text 1 p.bits ++ start_text p

-- the clauses from a literal of the first on
abbrev pub clauses_text : List (List LitOf) → ℕ → List ℕ
clauses_text [] i = []
clauses_text (c ∷ F) i = clause_text (drop i c) ++ body_text F

-- the text from a place on
abbrev pub text_from : PairOf → Place → List ℕ
text_from p (Bit i) = bits_text (i + 1) (drop i p.bits) ++ start_text p
text_from p Start = start_text p
text_from p Next = next_text p
text_from p Bad = bad_text p
text_from p Head = dimacs_text p.formula
text_from p (Literal c i) = clauses_text (drop c p.formula.clauses) i
text_from p End = []

-- the place is one of the text
abbrev pub IsPlace : PairOf → Place → Type 0
IsPlace p (Bit i) = i ≤ length p.bits
IsPlace p Start = Unit {0}
IsPlace p Next = Unit {0}
IsPlace p Bad = Unit {0}
IsPlace p Head = Unit {0}
IsPlace p (Literal c i) = (lits : List LitOf) × (slice_get p.formula.clauses c ≡ Some lits) × (i ≤ length lits)
IsPlace p End = Unit {0}

-- what is still to come: of the piece at hand, and after it
abbrev pub rest_of : PairOf → Front → List ℕ
rest_of p f = drop f.given f.piece.bytes ++ text_from p f.next

pub record IsFront (p : PairOf) (f : Front) : Type 0 where
  pub given : f.given ≤ length f.piece.bytes
  pub next : IsPlace p f.next
