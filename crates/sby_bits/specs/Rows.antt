-- A row is a list of bits, lowest first, and stands for a number.
use Rattle.std.specs.Prelude.{ℕ, zero, suc, ◌+◌, ◌-◌, ◌*◌, ◌/◌, ◌%◌, ◌^◌, ◌==◌, Bool, false, if◌then◌else◌, List, [], ◌∷◌, length, ℤ, pos, negsuc, ◌-ℤ◌}

abbrev pub Row : Type 0
Row = List Bool

-- the sum of 2 ^ i over the set bits
abbrev pub num : Row → ℕ
num [] = 0
num (b ∷ r) = (if b then 1 else 0) + 2 * num r

-- the last bit, or false where there is none
abbrev pub top_bit : Row → Bool
top_bit [] = false
top_bit (b ∷ []) = b
top_bit (b ∷ c ∷ r) = top_bit (c ∷ r)

-- the number in two's complement
abbrev pub snum : Row → ℤ
snum r = if top_bit r then pos (num r) -ℤ pos (2 ^ length r) else pos (num r)

-- z modulo m
abbrev pub residue : ℤ → ℕ → ℕ
residue (pos n) m = n % m
residue (negsuc n) m = m - 1 - n % m

-- the lowest y bits of n
abbrev pub low_bits : ℕ → ℕ → Row
low_bits zero n = []
low_bits (suc y) n = (n % 2 == 1) ∷ low_bits y (n / 2)

-- the row of length y whose number is z modulo 2 ^ y
abbrev pub fit : ℕ → ℤ → Row
fit y z = low_bits y (residue z (2 ^ y))

-- the number that a row stands for, by its sign or without
abbrev pub value : Bool → Row → ℤ
value signed r = if signed then snum r else pos (num r)

-- the row at length y
abbrev pub ext : Row → Bool → ℕ → Row
ext r signed y = fit y (value signed r)
