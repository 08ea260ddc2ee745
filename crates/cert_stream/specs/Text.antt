-- The text of an engine's stream: lines, parted by line feeds, and words, parted by white space.
use Rattle.std.specs.Prelude.{◌≡◌, ℕ, ◌+◌, ◌-◌, ◌^◌, Bool, true, false, cond, not, ◌&&◌, ◌||◌, eqb, leb, List, [], ◌∷◌, ◌++◌, length, drop, Option, Some, None}
use Rattle.std.specs.List.{list_all}
use Rattle.std.specs.Str.Parse.{digits_value, starts_with_minus}
use Rattle.cnf_form.specs.Cnf.{LitOf}

-- space, tab and carriage return
abbrev pub is_blank : ℕ → Bool
is_blank b = eqb b 32 || eqb b 9 || eqb b 13

abbrev pub is_digit : ℕ → Bool
is_digit b = leb 48 b && leb b 57

-- no line feed is among them
abbrev pub NoFeed : List ℕ → Type 0
NoFeed [] = Unit {0}
NoFeed (b ∷ bs) = (eqb b 10 ≡ false) × NoFeed bs

-- white space alone
abbrev pub AreBlank : List ℕ → Type 0
AreBlank [] = Unit {0}
AreBlank (b ∷ bs) = (is_blank b ≡ true) × AreBlank bs

-- the texts between line feeds; after the last one no line feed stands
abbrev pub put_first : ℕ → List (List ℕ) → List (List ℕ)
put_first b [] = (b ∷ []) ∷ []
put_first b (t ∷ ts) = (b ∷ t) ∷ ts

abbrev pub lines_of : List ℕ → List (List ℕ)
lines_of [] = [] ∷ []
lines_of (b ∷ bs) = cond (eqb b 10) ([] ∷ lines_of bs) (put_first b (lines_of bs))

-- a run of visible bytes, the number of its first byte in the stream, and whether white space or a line feed follows it
pub record Word : Type 0 where
  pub place : ℕ
  pub text : List ℕ
  pub done : Bool

-- a word whose bytes so far are these, and end before byte number `at`
abbrev pub flush : Bool → ℕ → List ℕ → List Word
flush done at [] = []
flush done at (c ∷ q) = record { place = at - length (c ∷ q); text = c ∷ q; done = done } ∷ []

-- the words of a text whose first byte is byte number `at`, after the bytes so far of a word; `fed` tells whether a line feed follows it
abbrev pub words_from : Bool → ℕ → List ℕ → List ℕ → List Word
words_from fed at p [] = flush fed at p ++ []
words_from fed at p (b ∷ bs) = cond (is_blank b) (flush true at p ++ words_from fed (at + 1) [] bs) (words_from fed (at + 1) (p ++ b ∷ []) bs)

-- a decimal number without a leading 0
abbrev pub is_number : List ℕ → Bool
is_number [] = false
is_number (b ∷ bs) = list_all is_digit (b ∷ bs) && not (eqb b 48)

-- a literal of a variable from 1 to vars: an optional minus and the variable's number
abbrev pub size_of : List ℕ → List ℕ
size_of text = cond (starts_with_minus text) (drop 1 text) text

abbrev pub literal_of : ℕ → List ℕ → Option LitOf
literal_of vars text =
    cond (is_number (size_of text) && leb (digits_value 10 (size_of text)) vars)
    (Some (record { var = digits_value 10 (size_of text); negated = starts_with_minus text })) None

-- an id: a number up to 2 ^ 63 - 1
abbrev pub id_of : List ℕ → Option ℕ
id_of text = cond (is_number text && leb (digits_value 10 text) (2 ^ 63 - 1)) (Some (digits_value 10 text)) None
