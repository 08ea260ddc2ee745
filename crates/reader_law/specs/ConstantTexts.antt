-- Texts of constants, and the states of bits that each stands for, highest first, as in the Yosys manual's RTLIL text
-- representation.
use Rattle.std.specs.Prelude.{◌≡◌, ◌≢◌, ℕ, ◌+◌, ◌*◌, ◌<◌, Bool, true, false, IsFalse, List, [], ◌∷◌, ◌++◌, map, flat_map, length, replicate, reverse, pos, ◌-ℤ◌, codes}
use Rattle.std.specs.Str.Parse.{IsNumeral, digits_value}
use Rattle.sby_bits.specs.Rows.{Row, low_bits, snum}
use Rattle.rtlil_lex.specs.Tokens.{is_backslash, is_quote}
use Rattle.rtlil_constant.specs.Constants.{Word}

-- what a bit of a constant may be: 0, 1, x, z, - or m
pub data State : Type 0 where
  Zero : State
  One : State
  Undefined : State
  HighImpedance : State
  DontCare : State
  Marked : State

-- a state as it is written
abbrev pub state_digit : State → ℕ
state_digit Zero = 48
state_digit One = 49
state_digit Undefined = 120
state_digit HighImpedance = 122
state_digit DontCare = 45
state_digit Marked = 109

-- states as they are written
abbrev pub state_digits : List State → List ℕ
state_digits states = map state_digit states

-- what stands above the highest digit where fewer are written than the width
abbrev pub state_above : State → State
state_above Zero = Zero
state_above One = Zero
state_above Undefined = Undefined
state_above HighImpedance = HighImpedance
state_above DontCare = DontCare
state_above Marked = Zero

-- a bit as a state
abbrev pub bit_state : Bool → State
bit_state true = One
bit_state false = Zero

-- a row's bits, of which it has the lowest first
abbrev pub row_states : Row → List State
row_states row = map bit_state (reverse row)

-- a character's lowest eight bits
abbrev pub byte_states : ℕ → List State
byte_states b = row_states (low_bits 8 b)

-- decimal digits, at least one, and their number
abbrev pub IsNumberText : Word → ℕ → Type 0
IsNumberText w n = IsNumeral 10 w × (digits_value 10 w ≡ n)

-- an `s` after the quote changes nothing
pub data IsMark : Word → Type 0 where
  unmarked : IsMark []
  signed : IsMark (codes "s")

-- no three octal digits come
abbrev pub IsNoOctal : List ℕ → Type 0
IsNoOctal bytes = (a b c : ℕ) (rest : List ℕ) → a < 8 → b < 8 → c < 8 → bytes ≢ (48 + a) ∷ (48 + b) ∷ (48 + c) ∷ rest

-- What stands between a string's quotes, and its characters: each stands for itself, but after a backslash n for a line feed, t
-- for a tab, and three octal digits for their number.
pub data IsStringText : List ℕ → List ℕ → Type 0 where
  empty : IsStringText [] []
  plain : (b : ℕ) (text characters : List ℕ) → IsFalse (is_quote b) → IsFalse (is_backslash b) → IsStringText text characters → IsStringText (b ∷ text) (b ∷ characters)
  feed : (text characters : List ℕ) → IsStringText text characters → IsStringText (codes "\\n" ++ text) (10 ∷ characters)
  tab : (text characters : List ℕ) → IsStringText text characters → IsStringText (codes "\\t" ++ text) (9 ∷ characters)
  octal : (a b c : ℕ) (text characters : List ℕ) → a < 8 → b < 8 → c < 8 → IsStringText text characters
      → IsStringText (codes "\\" ++ (48 + a) ∷ (48 + b) ∷ (48 + c) ∷ text) ((a * 64 + b * 8 + c) ∷ characters)
  itself : (b : ℕ) (text characters : List ℕ) → b ≢ 110 → b ≢ 116 → IsNoOctal (b ∷ text) → IsStringText text characters → IsStringText (codes "\\" ++ b ∷ text) (b ∷ characters)

-- A width, a quote and digits, highest first, of which there may be fewer than the width; a decimal, with a minus or without, which
-- has 32 bits in two's complement; or a string, which has eight bits for each character, those of the first highest.
pub data IsConstantText : Word → List State → Type 0 where
  sized : (width mark : Word) (above : ℕ) (top : State) (low : List State) → IsNumberText width (above + length (top ∷ low)) → IsMark mark
      → IsConstantText (width ++ (codes "'" ++ (mark ++ state_digits (top ∷ low)))) (replicate above (state_above top) ++ top ∷ low)
  decimal : (w : Word) (n : ℕ) (row : Row) → IsNumberText w n → length row ≡ 32 → snum row ≡ pos n → IsConstantText w (row_states row)
  negative : (w : Word) (n : ℕ) (row : Row) → IsNumberText w n → length row ≡ 32 → snum row ≡ pos 0 -ℤ pos n → IsConstantText (codes "-" ++ w) (row_states row)
  string : (text characters : List ℕ) → IsStringText text characters → IsConstantText (codes "\"" ++ (text ++ codes "\"")) (flat_map byte_states characters)

-- in an attribute also a width without digits, whose bits are 0
pub data IsAttributeText : Word → List State → Type 0 where
  constant : (w : Word) (states : List State) → IsConstantText w states → IsAttributeText w states
  bare : (width mark : Word) (n : ℕ) → IsNumberText width n → IsMark mark → IsAttributeText (width ++ (codes "'" ++ mark)) (replicate n Zero)
