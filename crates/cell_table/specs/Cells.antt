-- What each combinational cell gives, and what each register holds next: one line for each group of the table of cells, in whole
-- numbers over rows.
use Rattle.std.specs.Prelude.{◌≡◌, ℕ, zero, suc, ◌+◌, ◌*◌, ◌/◌, ◌%◌, ◌^◌, max, Bool, true, false, cond, not, eqb, ◌&&◌, ◌||◌, List, [], ◌∷◌, ◌++◌, take, drop, length, ℤ, pos, negsuc, ◌+ℤ◌, ◌-ℤ◌, ◌*ℤ◌, int_lt, codes, bytes_eq}
use Rattle.std.specs.Int.{int_div_euclid}
use Rattle.sby_bits.specs.Rows.{Row, num, fit, value}
use Rattle.sby_bits.specs.Words.{quotient, remainder, moved_number, every_bit, some_bit, odd_bits}
use Rattle.cell_table.specs.declared.kind.Unary.{Unary}
use Rattle.cell_table.specs.declared.kind.Unary.TheVariants.{Not, Pos, Neg}
use Rattle.cell_table.specs.declared.kind.Binary.{Binary}
use Rattle.cell_table.specs.declared.kind.Binary.TheVariants.{And, Or, Xor, Xnor, Add, Sub, Mul}
use Rattle.cell_table.specs.declared.kind.Reduce.{Reduce}
use Rattle.cell_table.specs.declared.kind.Reduce.TheVariants.{And as EveryBit, Or as SomeBit, Xor as OddBits, Xnor as EvenBits, Bool as IsTrueNumber, Not as IsZeroNumber}
use Rattle.cell_table.specs.declared.kind.Logic.{Logic}
use Rattle.cell_table.specs.declared.kind.Logic.TheVariants.{And as BothTrue, Or as OneTrue}
use Rattle.cell_table.specs.declared.kind.Compare.{Compare}
use Rattle.cell_table.specs.declared.kind.Compare.TheVariants.{Eq, Ne, Eqx, Nex, Lt, Le, Gt, Ge}
use Rattle.cell_table.specs.declared.kind.Divide.{Divide}
use Rattle.cell_table.specs.declared.kind.Divide.TheVariants.{Div, Mod}

-- f on the bits at each place of two rows
abbrev pub bitwise : (Bool → Bool → Bool) → Row → Row → Row
bitwise f [] s = []
bitwise f (a ∷ r) [] = []
bitwise f (a ∷ r) (b ∷ s) = f a b ∷ bitwise f r s

-- exactly one of two bits, or both or none
abbrev pub either_one : Bool → Bool → Bool
either_one a b = cond a (not b) b

abbrev pub same_bit : Bool → Bool → Bool
same_bit a b = cond a b (not b)

-- `$not $pos $neg`: the complement, the number, its negative, at width y
abbrev pub unary_fn : Unary → ℕ → ℤ → Row
unary_fn Not y a = fit y (negsuc 0 -ℤ a)
unary_fn Pos y a = fit y a
unary_fn Neg y a = fit y (pos 0 -ℤ a)

-- `$and $or $xor $xnor $add $sub $mul`: at width y, bit by bit or as numbers
abbrev pub binary_fn : Binary → ℕ → ℤ → ℤ → Row
binary_fn And y a b = bitwise ◌&&◌ (fit y a) (fit y b)
binary_fn Or y a b = bitwise ◌||◌ (fit y a) (fit y b)
binary_fn Xor y a b = bitwise either_one (fit y a) (fit y b)
binary_fn Xnor y a b = bitwise same_bit (fit y a) (fit y b)
binary_fn Add y a b = fit y (a +ℤ b)
binary_fn Sub y a b = fit y (a -ℤ b)
binary_fn Mul y a b = fit y (a *ℤ b)

-- `$reduce_and $reduce_or $reduce_xor $reduce_xnor $reduce_bool $logic_not`
abbrev pub is_reduced : Reduce → Row → Bool
is_reduced EveryBit a = every_bit a
is_reduced SomeBit a = some_bit a
is_reduced OddBits a = odd_bits a
is_reduced EvenBits a = not (odd_bits a)
is_reduced IsTrueNumber a = some_bit a
is_reduced IsZeroNumber a = not (some_bit a)

-- `$logic_and $logic_or`: of A not 0 and B not 0
abbrev pub is_logic : Logic → Row → Row → Bool
is_logic BothTrue a b = some_bit a && some_bit b
is_logic OneTrue a b = some_bit a || some_bit b

-- `$eq $ne $eqx $nex $lt $le $gt $ge`: at width w whether they are one row; which of the two numbers is less
abbrev pub is_compared : Compare → ℕ → ℤ → ℤ → Bool
is_compared Eq w a b = eqb (num (fit w a)) (num (fit w b))
is_compared Ne w a b = not (eqb (num (fit w a)) (num (fit w b)))
is_compared Eqx w a b = eqb (num (fit w a)) (num (fit w b))
is_compared Nex w a b = not (eqb (num (fit w a)) (num (fit w b)))
is_compared Lt w a b = int_lt a b
is_compared Le w a b = not (int_lt b a)
is_compared Gt w a b = int_lt b a
is_compared Ge w a b = not (int_lt a b)

-- `$shl $sshl`: times a power of two
abbrev pub left_shift_fn : ℕ → ℤ → ℕ → Row
left_shift_fn y a by = fit y (a *ℤ pos (2 ^ by))

-- `$shr`: a at width w over a power of two, zeros coming in
abbrev pub right_shift_fn : ℕ → ℕ → ℤ → ℕ → Row
right_shift_fn y w a by = fit y (pos (num (fit w a) / 2 ^ by))

-- `$sshr`: over a power of two, rounded down, so that the sign comes in
abbrev pub sign_shift_fn : ℕ → ℤ → ℕ → Row
sign_shift_fn y a by = fit y (int_div_euclid a (pos (2 ^ by)))

-- `$shift $shiftx`: a at width w moved down by a number of places, or up where that is below zero; zeros come in
abbrev pub any_shift_fn : ℕ → ℕ → ℤ → ℤ → Row
any_shift_fn y w a by = fit y (pos (moved_number (num (fit w a)) by))

-- `$div $mod`: towards zero; over zero -1 where a is at least 0, else 1, and what is left is a
abbrev pub divide_fn : Divide → ℕ → ℤ → ℤ → Row
divide_fn Div y a b = fit y (quotient a b)
divide_fn Mod y a b = fit y (remainder a b)

-- slice i of width w, counted from the lowest
abbrev pub slice_number : ℕ → Row → ℕ → Row
slice_number w a i = take w (drop (w * i) a)

-- the place of the lowest set bit, where there is one
abbrev pub lowest_set : Row → ℕ
lowest_set [] = 0
lowest_set (true ∷ s) = 0
lowest_set (false ∷ s) = suc (lowest_set s)

-- `$mux`: b where the select is set, else a
abbrev pub mux_fn : Row → Row → Bool → Row
mux_fn a b s = cond s b a

-- `$pmux`: a where no select is set, else b's slice of the lowest set select
abbrev pub pmux_fn : ℕ → Row → Row → Row → Row
pmux_fn w a b s = cond (some_bit s) (slice_number w b (lowest_set s)) a

-- `$bmux`: slice number s of a
abbrev pub bmux_fn : ℕ → Row → Row → Row
bmux_fn w a s = slice_number w a (num s)

-- `$slice`: y bits of a from a place on
abbrev pub slice_fn : ℕ → ℕ → Row → Row
slice_fn y offset a = take y (drop offset a)

-- a bit, then zeros, at width y
abbrev pub bit_row : ℕ → Bool → Row
bit_row y b = fit y (pos (cond b 1 0))
