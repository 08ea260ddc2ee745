-- Decimal numbers.
use Rattle.std.specs.Prelude.{ℕ, Bool, false, cond, not, ◌&&◌, eqb, leb, List, [], ◌∷◌, Option, Some, None}
use Rattle.std.specs.List.{list_all}
use Rattle.std.specs.Str.Parse.{digits_value}

abbrev pub is_digit : ℕ → Bool
is_digit b = leb 48 b && leb b 57

-- decimal digits without a leading 0
abbrev pub is_number : List ℕ → Bool
is_number [] = false
is_number (b ∷ bs) = list_all is_digit (b ∷ bs) && not (eqb b 48)

-- the number that a word writes, from 1 to `most`
abbrev pub number_upto : ℕ → List ℕ → Option ℕ
number_upto most word = cond (is_number word && leb (digits_value 10 word) most) (Some (digits_value 10 word)) None
