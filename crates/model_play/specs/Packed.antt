-- Rows, flat or packed: 64 bits a word, each row from a word of its own on.
use Rattle.std.specs.Prelude.{ℕ, zero, suc, ◌+◌, ◌*◌, ◌/◌, ◌%◌, ◌^◌, ◌==◌, Bool, List, [], ◌∷◌, map, take, drop, slice_index_or}
use Rattle.std.specs.List.{range_with_len}
use Rattle.sby_bits.specs.Rows.{Row}

-- this many rows of a width, which stand one after the other
abbrev pub rows_of : ℕ → ℕ → Row → List Row
rows_of width zero bits = []
rows_of width (suc n) bits = take width bits ∷ rows_of width n (drop width bits)

-- how many words a row of a width takes
abbrev pub words_of : ℕ → ℕ
words_of width = (width + 63) / 64

-- the bit at a place of the row that begins at word `from`
abbrev pub packed_bit : List ℕ → ℕ → ℕ → Bool
packed_bit words from place = slice_index_or words (from + place / 64) 0 / 2 ^ (place % 64) % 2 == 1

abbrev pub packed_row : List ℕ → ℕ → ℕ → Row
packed_row words width from = map (packed_bit words from) (range_with_len 0 width)

abbrev pub packed_rows : List ℕ → ℕ → ℕ → List Row
packed_rows words width count = map (λ t. packed_row words width (t * words_of width)) (range_with_len 0 count)
