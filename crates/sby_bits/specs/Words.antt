-- The whole-number function of each operation on words, one for each line of the table of cells.
-- y is the length of the row that it gives, and numbers are cut to it modulo 2 ^ y.
use Rattle.std.specs.Prelude.{ℕ, zero, suc, ◌+◌, ◌*◌, ◌/◌, ◌%◌, ◌^◌, ◌==◌, Bool, false, not, if◌then◌else◌, length, slice_index_or, ℤ, pos, negsuc, ◌+ℤ◌, ◌-ℤ◌, ◌*ℤ◌, int_lt, int_div, int_rem}
use Rattle.std.specs.Int.{int_div_euclid}
use Rattle.std.specs.List.{count_by}
use Rattle.sby_bits.specs.Rows.{Row, num, fit, value}

-- a plus b, a less b, a times b
abbrev pub sum_row : Row → Row → ℕ → Row
sum_row a b y = fit y (pos (num a) +ℤ pos (num b))

abbrev pub difference_row : Row → Row → ℕ → Row
difference_row a b y = fit y (pos (num a) -ℤ pos (num b))

abbrev pub product_row : Row → Row → ℕ → Row
product_row a b y = fit y (pos (num a) *ℤ pos (num b))

-- m over n, towards zero; over zero, -1 where m is at least 0, else 1
abbrev pub quotient : ℤ → ℤ → ℤ
quotient (pos m) (pos zero) = negsuc 0
quotient (negsuc m) (pos zero) = pos 1
quotient m n = int_div m n

-- what that division leaves, with the sign of m; over zero, m
abbrev pub remainder : ℤ → ℤ → ℤ
remainder m (pos zero) = m
remainder m n = int_rem m n

-- a over b, and what is left of a, both numbers with their signs where `signed`
abbrev pub quotient_row : Row → Row → Bool → ℕ → Row
quotient_row a b signed y = fit y (quotient (value signed a) (value signed b))

abbrev pub remainder_row : Row → Row → Bool → ℕ → Row
remainder_row a b signed y = fit y (remainder (value signed a) (value signed b))

-- the number of r in two's complement, with `fill` in every place above r
abbrev pub filled_number : Row → Bool → ℤ
filled_number r fill = if fill then pos (num r) -ℤ pos (2 ^ length r) else pos (num r)

-- the bit at a place, which may be below zero; outside the row it is not set
abbrev pub bit_at : Row → ℤ → Bool
bit_at r (pos i) = slice_index_or r i false
bit_at r (negsuc i) = false

-- a shift up by num by places: times a power of two
abbrev pub left_shift_row : Row → Row → ℕ → Row
left_shift_row a by y = fit y (pos (num a * 2 ^ num by))

-- a shift down by num by places, `fill` coming in: over a power of two, rounded down
abbrev pub right_shift_row : Row → Row → Bool → ℕ → Row
right_shift_row a by fill y = fit y (int_div_euclid (filled_number a fill) (pos (2 ^ num by)))

-- n moved down by a number of places, or up where that is below zero
abbrev pub moved_number : ℕ → ℤ → ℕ
moved_number n (pos b) = n / 2 ^ b
moved_number n (negsuc b) = n * 2 ^ suc b

-- a shift down by the number of `by`, or up where that is below zero, zeros coming in from both sides
abbrev pub any_shift_row : Row → Row → Bool → ℕ → Row
any_shift_row a by by_signed y = fit y (pos (moved_number (num a) (value by_signed by)))

-- whether a is below b, both with their signs where `signed`; whether they are equal
abbrev pub is_less : Row → Row → Bool → Bool
is_less a b signed = int_lt (value signed a) (value signed b)

abbrev pub is_equal : Row → Row → Bool
is_equal a b = num a == num b

-- whether every bit is set, some bit is, or an odd number of them
abbrev pub every_bit : Row → Bool
every_bit a = num a + 1 == 2 ^ length a

abbrev pub some_bit : Row → Bool
some_bit a = not (num a == 0)

abbrev pub odd_bits : Row → Bool
odd_bits a = count_by (λ b. b) a % 2 == 1

-- b above a; the bits of a from a place on
abbrev pub concat_row : Row → Row → ℕ → Row
concat_row a b y = fit y (pos (num a + 2 ^ length a * num b))

abbrev pub slice_row : Row → ℕ → ℕ → Row
slice_row a offset y = fit y (pos (num a / 2 ^ offset))
