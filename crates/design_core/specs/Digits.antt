-- The digits of parameters, lowest first, and what they are as numbers.
use Rattle.std.specs.Prelude.{ℕ, ◌+◌, ◌*◌, Bool, true, false, cond, List, [], ◌∷◌, map, replicate}
use Rattle.std.specs.List.{list_all}
use Rattle.sby_bits.specs.Rows.{low_bits}
use Rattle.design_core.specs.declared.digit.Digit.{Digit}
use Rattle.design_core.specs.declared.digit.Digit.TheVariants.{Const, Free, Marker}
use Rattle.design_core.specs.declared.digit.Extension.{Extension}
use Rattle.design_core.specs.declared.digit.Extension.TheVariants.{Zeros, Markers}

abbrev pub is_binary : Digit → Bool
is_binary (Const b) = true
is_binary (Free n) = false
is_binary Marker = false

-- a 0, a 1 or a free bit
abbrev pub is_value : Digit → Bool
is_value (Const b) = true
is_value (Free n) = true
is_value Marker = false

abbrev pub digit_number : Digit → ℕ
digit_number (Const b) = cond b 1 0
digit_number (Free n) = 0
digit_number Marker = 0

-- digits of 0 and 1 as a number, lowest first
abbrev pub digits_number : List Digit → ℕ
digits_number [] = 0
digits_number (x ∷ xs) = digit_number x + 2 * digits_number xs

-- no digit but 0 and 1
abbrev pub is_number : List Digit → Bool
is_number digits = list_all is_binary digits

-- a number as this many digits
abbrev pub number_digits : ℕ → ℕ → List Digit
number_digits width n = map (λ b. Const b) (low_bits width n)

-- what stands above digits that are kept one by one
abbrev pub above_digit : Extension → Digit
above_digit (Zeros count) = Const false
above_digit (Markers count) = Marker

abbrev pub above_count : Extension → ℕ
above_count (Zeros count) = count
above_count (Markers count) = count

abbrev pub above_digits : Extension → List Digit
above_digits above = replicate (above_count above) (above_digit above)
