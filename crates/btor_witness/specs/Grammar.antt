-- The lines of a witness, after the paper on BTOR2 of Niemetz, Preiner, Wolf and Biere (CAV 2018).
use Rattle.std.specs.Prelude.{◌≡◌, ◌⊎◌, ℕ, ◌+◌, ◌-◌, ◌^◌, ◌<◌, ◌≤◌, min, Bool, true, false, cond, ◌&&◌, ◌||◌, eqb, leb, List, [], ◌∷◌, ◌++◌, length, map, reverse, Option, Some, None, is_some, slice_get, codes}
use Rattle.std.specs.List.{AllByRecursion, AllZip, list_all}
use Rattle.std.specs.Str.Parse.{digits_value}
use Rattle.sby_bits.specs.Rows.{Row}
use Rattle.btor_witness.specs.Shape.{ShapeOf, widths}
use Rattle.btor_witness.specs.declared.shape.Slot.{Slot}

-- white space within a line: space, tab, carriage return
abbrev pub is_blank : ℕ → Bool
is_blank b = eqb b 32 || (eqb b 9 || eqb b 13)

abbrev pub is_digit : ℕ → Bool
is_digit b = leb 48 b && leb b 57

-- the words of a line, which are the longest runs of visible bytes, where these bytes of one stand before it
abbrev pub if_any : List ℕ → List (List ℕ)
if_any [] = []
if_any (b ∷ word) = (b ∷ word) ∷ []

abbrev pub words_after : List ℕ → List ℕ → List (List ℕ)
words_after word [] = if_any word
words_after word (b ∷ bytes) = cond (is_blank b) (if_any word ++ words_after [] bytes) (words_after (word ++ b ∷ []) bytes)

abbrev pub words_of : List ℕ → List (List ℕ)
words_of line = words_after [] line

-- one or more decimal digits; the greatest number of 64 bits stands for all past it, as no stream has that many frames and no model that many states
pub record IsNumber (word : List ℕ) (n : ℕ) : Type 0 where
  pub some : 0 < length word
  pub digits : list_all is_digit word ≡ true
  pub value : min (digits_value 10 word) (2 ^ 64 - 1) ≡ n

-- a byte and a number, as `b0`, `#12`, `@3`
abbrev pub IsTagged : ℕ → List ℕ → ℕ → Type 0
IsTagged tag word n = (digits : List ℕ) × (word ≡ tag ∷ digits) × IsNumber digits n

-- the digit of a bit; x, which says that any value serves, counts as 0
abbrev pub IsBit : ℕ → Bool → Type 0
IsBit b true = b ≡ 49
IsBit b false = (b ≡ 48) ⊎ (b ≡ 120)

-- a row's bits, the highest first
abbrev pub IsBits : List ℕ → Row → Type 0
IsBits word row = AllZip IsBit word (reverse row)

-- a row for the state or input of this number, counted from 0 in file order
pub record AssignOf : Type 0 where
  pub number : ℕ
  pub row : Row

-- a number and bits, perhaps with a symbol
pub record IsAssign (words : List (List ℕ)) (a : AssignOf) : Type 0 where
  pub number : List ℕ
  pub bits : List ℕ
  pub symbol : List (List ℕ)
  pub are : words ≡ number ∷ bits ∷ symbol
  pub at_most : length symbol ≤ 1
  pub is_number : IsNumber number a.number
  pub is_bits : IsBits bits a.row

-- what a line may be: `sat`; the bads that the witness is for, of which the first counts; the head of the states or the inputs of a frame; a
-- row for one of them; `.`
pub data WitnessLine : Type 0 where
  SatLine : WitnessLine
  BadsLine : ℕ → WitnessLine
  StatesLine : ℕ → WitnessLine
  InputsLine : ℕ → WitnessLine
  AssignLine : AssignOf → WitnessLine
  EndLine : WitnessLine

abbrev pub IsBadName : List ℕ → Type 0
IsBadName word = (n : ℕ) × IsTagged 98 word n

abbrev pub HasWords : List (List ℕ) → WitnessLine → Type 0
HasWords words SatLine = words ≡ codes "sat" ∷ []
HasWords words (BadsLine k) = (word : List ℕ) × (others : List (List ℕ)) × (words ≡ word ∷ others) × IsTagged 98 word k × AllByRecursion IsBadName others
HasWords words (StatesLine t) = (word : List ℕ) × (words ≡ word ∷ []) × IsTagged 35 word t
HasWords words (InputsLine t) = (word : List ℕ) × (words ≡ word ∷ []) × IsTagged 64 word t
HasWords words (AssignLine a) = IsAssign words a
HasWords words EndLine = words ≡ codes "." ∷ []

abbrev pub IsLine : List ℕ → WitnessLine → Type 0
IsLine line k = HasWords (words_of line) k

abbrev pub IsNoSat : List ℕ → Type 0
IsNoSat line = IsLine line SatLine → ⊥

-- a frame: the rows of states and those of inputs, where it has such a part
pub record FrameOf : Type 0 where
  pub states : Option (List AssignOf)
  pub inputs : Option (List AssignOf)

-- a witness: the bad that it is for, counted from 0, and its frames
pub record WitnessOf : Type 0 where
  pub bad : ℕ
  pub frames : List FrameOf

-- the lines of frames from number t on
abbrev pub part_lines : WitnessLine → Option (List AssignOf) → List WitnessLine
part_lines head None = []
part_lines head (Some rows) = head ∷ map AssignLine rows

abbrev pub frame_lines : ℕ → FrameOf → List WitnessLine
frame_lines t f = part_lines (StatesLine t) f.states ++ part_lines (InputsLine t) f.inputs

abbrev pub frames_lines : ℕ → List FrameOf → List WitnessLine
frames_lines t [] = []
frames_lines t (f ∷ fs) = frame_lines t f ++ frames_lines (t + 1) fs

abbrev pub witness_lines : WitnessOf → List WitnessLine
witness_lines x = BadsLine x.bad ∷ (frames_lines 0 x.frames ++ EndLine ∷ [])

-- there is such a state or input, and it is as wide
abbrev pub AssignFits : List Slot → AssignOf → Type 0
AssignFits slots a = slice_get (widths slots) a.number ≡ Some (length a.row)

abbrev pub PartFits : List Slot → Option (List AssignOf) → Type 0
PartFits slots None = Unit {0}
PartFits slots (Some rows) = AllByRecursion (AssignFits slots) rows

-- a frame has one part or both
pub record FrameFits (shape : ShapeOf) (f : FrameOf) : Type 0 where
  pub some : (is_some f.states || is_some f.inputs) ≡ true
  pub states : PartFits shape.states f.states
  pub inputs : PartFits shape.inputs f.inputs

-- these lines are a witness: those before the first line `sat` are skipped
pub record IsWitness (shape : ShapeOf) (lines : List (List ℕ)) (x : WitnessOf) : Type 0 where
  pub skipped : List (List ℕ)
  pub first : List ℕ
  pub rest : List (List ℕ)
  pub are : lines ≡ skipped ++ first ∷ rest
  pub before : AllByRecursion IsNoSat skipped
  pub sat : IsLine first SatLine
  pub read : AllZip IsLine rest (witness_lines x)
  pub some : 0 < length x.frames
  pub fits : AllByRecursion (FrameFits shape) x.frames

-- some witness begins with them
abbrev pub Begins : ShapeOf → List (List ℕ) → Type 0
Begins shape lines = (more : List (List ℕ)) × (x : WitnessOf) × IsWitness shape (lines ++ more) x
