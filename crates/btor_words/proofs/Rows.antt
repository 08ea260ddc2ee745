-- Rows at other widths, and what operators give of them.
use Rattle.std.proofs.Common.{◌≡◌, ℕ, zero, suc, ◌+◌, ◌-◌, ◌*◌, ◌%◌, ◌^◌, ◌<◌, ◌≤◌, Bool, true, false, cond, ◌&&◌, [], ◌∷◌, length, take, drop, get_or, refl, sym, ◌∙◌, ap, subst, arith, not, eqb, mul-suc, mul-zero}
use Rattle.std.proofs.lemmas.Int.{ints}
use Rattle.std.proofs.lemmas.Nat.{pow_pos}
use Rattle.std.proofs.Math.Nat.{mod-eq_of_lt}
use Rattle.std.specs.Prelude.{ℤ, pos, negsuc, map, replicate, ◌-ℤ◌}
use Rattle.std.specs.Bool.{beq}
use Rattle.std.specs.List.{list_all}
use Rattle.std.proofs.lemmas.Bool.{true≢false}
use Rattle.std.specs.Int.{int_div_euclid}
use Rattle.std.proofs.lemmas.List.{get_or-take, get_or_default, get_or-map, length-map, length-take-le, length-drop, drop-drop, drop-take, drop_all}
use Rattle.std.proofs.Math.Seq.{drop-cons}
use Rattle.std.proofs.lemmas.Bool.Decides.{nat_tests}
use Rattle.sby_bits.specs.Rows.{Row, num, fit, ext, low_bits, value, top_bit, snum}
use Rattle.sby_bits.specs.Words.{quotient, remainder, moved_number, some_bit}
use Rattle.sby_bits.proofs.Numbers.{complement-at, fit-at, high_half, length-fit, num-turned, row_is, value-at}
use Rattle.sby_bits.proofs.Moves.{snum_ones}
use Rattle.sby_bits.proofs.RowLaws.{extended_longer, num-fit, row_again, signed_again}
use Rattle.cell_table.specs.Cells.{any_shift_fn, binary_fn, bit_row, bitwise, divide_fn, either_one, is_compared, left_shift_fn, lowest_set, mux_fn, pmux_fn, same_bit, sign_shift_fn, slice_fn, slice_number}
use Rattle.cell_table.specs.declared.kind.Binary.{Binary}
use Rattle.cell_table.specs.declared.kind.Binary.TheVariants as cell
use Rattle.cell_table.specs.declared.kind.Compare.{Compare}
use Rattle.cell_table.specs.declared.kind.Divide.{Divide}
use Rattle.cell_table.specs.declared.kind.Divide.TheVariants as divide
use Rattle.cell_rows.proofs.Choosing.{num-drop}
use Rattle.cell_rows.proofs.Cuts.{cut_again, difference_cut, opposite_of, product_cut, sum_cut, times_cut}

pub same_size : (r : Row) (signed : Bool) (y : ℕ) → length r ≡ y → r ≡ ext r signed y
same_size r true y e = sym (rw (sym e) (signed_again r))
same_size r false y e = sym (rw (sym e) (row_again r))

pub cut_row : (r : Row) (signed : Bool) (y : ℕ) → y ≤ length r → slice_fn y 0 r ≡ ext r signed y
cut_row r signed y h =
    row_is (take y r) y (value signed r) (length-take-le y r h)
    (λ k l. get_or-take y r k false l ∙ get_or_default r k false (signed && top_bit r) (omega arith) ∙ sym (value-at r signed k))

pub length-slice : (r : Row) (y offset : ℕ) → offset + y ≤ length r → length (slice_fn y offset r) ≡ y
length-slice r y offset h = length-take-le y (drop offset r) (let e = length-drop offset r in omega arith)

pub whole_slice : (r : Row) (y offset : ℕ) → length r ≡ y → offset ≡ 0 → r ≡ slice_fn y offset r
whole_slice r y offset e z = rw z (same_size r false y e ∙ sym (cut_row r false y (omega arith)))

pub zeros_above : (r : Row) (y : ℕ) → length r ≤ y → num (ext r false y) ≡ num r
zeros_above r y h = let e : pos (num (ext r false y)) ≡ pos (num r) = extended_longer r false y h in cc

-- a row by its number
pub again : (w : ℕ) (r : Row) → length r ≡ w → fit w (pos (num r)) ≡ r
again w r e = subst (λ (n : ℕ). fit n (pos (num r)) ≡ r) e (row_again r)

-- a row cut to its own width
pub cut_same : (w : ℕ) (z : ℤ) → fit w (pos (num (fit w z))) ≡ fit w z
cut_same w z = cut_again w w z (omega arith)

pub not_row : (y : ℕ) (z : ℤ) → map not (fit y z) ≡ fit y (negsuc 0 -ℤ z)
not_row y z =
    let e : length (fit y z) ≡ y = length-fit y z in
    row_is (map not (fit y z)) y (negsuc 0 -ℤ z) (length-map (fit y z) not ∙ e)
    (λ k l. get_or-map not (fit y z) k false false (omega arith) ∙ ap not (fit-at y z k l) ∙ sym (complement-at z k))

pub neg_row : (y : ℕ) (z : ℤ) → fit y (pos 0 -ℤ pos (num (fit y z))) ≡ fit y (pos 0 -ℤ z)
neg_row y z = opposite_of y y z (fit y z) refl refl

pub turned_xor : (a b : Row) → map not (bitwise either_one a b) ≡ bitwise same_bit a b
turned_xor [] b = refl
turned_xor (x ∷ a) [] = refl
turned_xor (true ∷ a) (true ∷ b) = ap (λ (r : Row). true ∷ r) (turned_xor a b)
turned_xor (true ∷ a) (false ∷ b) = ap (λ (r : Row). false ∷ r) (turned_xor a b)
turned_xor (false ∷ a) (true ∷ b) = ap (λ (r : Row). false ∷ r) (turned_xor a b)
turned_xor (false ∷ a) (false ∷ b) = ap (λ (r : Row). true ∷ r) (turned_xor a b)

-- a cell of operands that were cut to its width
pub binary_again : (k : Binary) (w : ℕ) (a b : ℤ) → binary_fn k w (pos (num (fit w a))) (pos (num (fit w b))) ≡ binary_fn k w a b
binary_again cell.And w a b = rw (cut_same w a, cut_same w b) refl
binary_again cell.Or w a b = rw (cut_same w a, cut_same w b) refl
binary_again cell.Xor w a b = rw (cut_same w a, cut_same w b) refl
binary_again cell.Xnor w a b = rw (cut_same w a, cut_same w b) refl
binary_again cell.Add w a b = sum_cut w a b
binary_again cell.Sub w a b = difference_cut w a b
binary_again cell.Mul w a b = product_cut w a b

-- one bit at a width
pub bit_resized : (y : ℕ) (b : Bool) → ext (b ∷ []) false y ≡ bit_row y b
bit_resized y true = refl
bit_resized y false = refl

pub compare_longer : (k : Compare) (w : ℕ) (a b : Row) (signed : Bool) → length a ≤ w → length b ≤ w → is_compared k w (value signed (ext a signed w)) (value signed (ext b signed w)) ≡ is_compared k w (value signed a) (value signed b)
compare_longer k w a b signed h l = rw (extended_longer a signed w h, extended_longer b signed w l) refl

pub divide_longer : (k : Divide) (y w : ℕ) (a b : Row) (signed : Bool) → length a ≤ w → length b ≤ w → y ≤ w
    → ext (divide_fn k w (value signed (ext a signed w)) (value signed (ext b signed w))) false y ≡ divide_fn k y (value signed a) (value signed b)
divide_longer divide.Div y w a b signed h l m = rw (extended_longer a signed w h, extended_longer b signed w l) (cut_again y w (quotient (value signed a) (value signed b)) m)
divide_longer divide.Mod y w a b signed h l m = rw (extended_longer a signed w h, extended_longer b signed w l) (cut_again y w (remainder (value signed a) (value signed b)) m)

pub moved_up : (y w : ℕ) (a b : Row) (signed : Bool) → y ≤ w → length b ≤ w
    → ext (fit w (pos (num (ext (ext a signed y) false w) * 2 ^ num (ext b false w)))) false y ≡ left_shift_fn y (value signed a) (num b)
moved_up y w a b signed h l =
    let x : Row = ext a signed y in
    let wide : length x ≡ y = length-fit y (value signed a) in
    rw (zeros_above x w (omega arith), zeros_above b w l) (cut_again y w (pos (num x * 2 ^ num b)) h ∙ times_cut y (value signed a) (2 ^ num b))

pub moved_sign : (y w : ℕ) (a b : Row) (signed : Bool) → y ≤ w → length a ≤ w → length b ≤ w
    → ext (fit w (int_div_euclid (value signed (ext a signed w)) (pos (2 ^ num (ext b false w))))) false y ≡ sign_shift_fn y (value signed a) (num b)
moved_sign y w a b signed h l m = rw (extended_longer a signed w l, zeros_above b w m) (cut_again y w (int_div_euclid (value signed a) (pos (2 ^ num b))) h)

-- a at its own width, then longer by zeros, moved, and cut again
pub moved_any : (y own w : ℕ) (a : Row) (signed : Bool) (by : ℤ) → own ≤ w → y ≤ w
    → ext (fit w (pos (moved_number (num (ext (ext a signed own) false w)) by))) false y ≡ any_shift_fn y own (value signed a) by
moved_any y own w a signed by h l =
    let x : Row = ext a signed own in
    let wide : length x ≡ own = length-fit own (value signed a) in
    rw (zeros_above x w (omega arith)) (cut_again y w (pos (moved_number (num x) by)) l)

-- the number that a row below zero lacks of zero
lacking : (m w n t : ℕ) → n + t + 1 ≡ w → n ≡ suc m → w - 1 - m % w ≡ suc t
lacking m w n t e f = let small : m < w = omega arith in rw (mod-eq_of_lt small) (omega arith)

below : (m : ℕ) → pos 0 -ℤ pos (suc m) ≡ negsuc m
below m = omega (arith, ints)

pub opposite_number : (r : Row) → top_bit r ≡ true → num (fit (length r) (pos 0 -ℤ pos (num r))) ≡ suc (num (map not r))
opposite_number r e = by_number (num r) refl
  where
    by_number : (n : ℕ) → num r ≡ n → num (fit (length r) (pos 0 -ℤ pos (num r))) ≡ suc (num (map not r))
    by_number zero z = absurd (let h = high_half r e in let p = num-turned r in omega arith)
    by_number (suc m) z = rw z (ap (λ (k : ℤ). num (fit (length r) k)) (below m) ∙ num-fit (length r) (negsuc m) ∙ lacking m (2 ^ length r) (suc m) (num (map not r)) (let p = num-turned r in omega arith) refl)

-- down by the number, or up by its opposite where its sign is set
pub moved_either : (w : ℕ) (x by : Row) → cond (top_bit by) (fit w (pos (num x * 2 ^ num (fit (length by) (pos 0 -ℤ pos (num by)))))) (fit w (pos (moved_number (num x) (pos (num by))))) ≡ fit w (pos (moved_number (num x) (snum by)))
moved_either w x by = by_sign (top_bit by) refl
  where
    by_sign : (t : Bool) → top_bit by ≡ t → cond t (fit w (pos (num x * 2 ^ num (fit (length by) (pos 0 -ℤ pos (num by)))))) (fit w (pos (moved_number (num x) (pos (num by))))) ≡ fit w (pos (moved_number (num x) (snum by)))
    by_sign true h = rw (opposite_number by h, snum_ones by h) refl
    by_sign false h = rw h refl

-- the slice of the highest bit
pub top_slice : (r : Row) (k : ℕ) → suc k ≡ length r → slice_fn 1 k r ≡ top_bit r ∷ []
top_slice [] k h = absurd (omega arith)
top_slice (b ∷ []) zero h = refl
top_slice (b ∷ []) (suc k) h = absurd (omega arith)
top_slice (b ∷ c ∷ r) zero h = absurd (omega arith)
top_slice (b ∷ c ∷ r) (suc k) h = top_slice (c ∷ r) k (omega arith)

doubled : (n : ℕ) → not (eqb (0 + 2 * n) 0) ≡ not (eqb n 0)
doubled zero = refl
doubled (suc n) = grind (arith, nat_tests)

-- one more select in front of those of a chain of choices
chained : (w : ℕ) (a b s : Row) (x : Bool) → mux_fn (pmux_fn w a (drop w b) s) (take w b) (some_bit (x ∷ [])) ≡ pmux_fn w a b (x ∷ s)
chained w a b s true =
    let some : not (eqb (1 + 2 * num s) 0) ≡ true = grind (arith, nat_tests) in
    let first : drop (w * 0) b ≡ b = rw (mul-zero w) refl in
    rw (some, first) refl
chained w a b s false =
    let some : not (eqb (0 + 2 * num s) 0) ≡ not (eqb (num s) 0) = doubled (num s) in
    let next : drop (w * suc (lowest_set s)) b ≡ drop (w * lowest_set s) (drop w b) =
    ap (λ (n : ℕ). drop n b) (omega (arith, mul-suc w (lowest_set s))) ∙ sym (drop-drop (w * lowest_set s) w b) in
    rw (some, next) refl

one_bit : (s : Row) (k : ℕ) → k < length s → slice_fn 1 k s ≡ get_or s k false ∷ []
one_bit s k h = rw (drop-cons s k false h) refl

pub chained_at : (w k : ℕ) (a b s : Row) → k < length s →
    mux_fn (pmux_fn w a (drop (w * suc k) b) (drop (suc k) s)) (slice_fn w (w * k) b) (some_bit (slice_fn 1 k s)) ≡ pmux_fn w a (drop (w * k) b) (drop k s)
chained_at w k a b s h =
    let head : drop k s ≡ get_or s k false ∷ drop (suc k) s = drop-cons s k false h in
    let on : drop w (drop (w * k) b) ≡ drop (w * suc k) b = drop-drop w (w * k) b ∙ ap (λ (n : ℕ). drop n b) (omega (arith, mul-suc w k)) in
    rw (one_bit s k h, head, sym on) (chained w a (drop (w * k) b) (drop (suc k) s) (get_or s k false))

pub no_choice : (w : ℕ) (a b s : Row) (k : ℕ) → length s ≤ k → a ≡ pmux_fn w a b (drop k s)
no_choice w a b s k h = rw (drop_all k s h) refl

take_front : (h k : ℕ) (xs : Row) → h ≤ k → take h (take k xs) ≡ take h xs
take_front zero k xs l = refl
take_front (suc h) zero xs l = absurd (omega arith)
take_front (suc h) (suc k) [] l = refl
take_front (suc h) (suc k) (x ∷ xs) l = ap (λ (r : Row). x ∷ r) (take_front h k xs (omega arith))

-- of a slice twice as wide the half that a bit chooses
halved : (h n : ℕ) (a : Row) (x : Bool) → mux_fn (slice_fn h 0 (slice_number (h + h) a n)) (slice_fn h h (slice_number (h + h) a n)) (some_bit (x ∷ [])) ≡ slice_number h a (cond x 1 0 + 2 * n)
halved h n a true =
    let at : drop h (drop ((h + h) * n) a) ≡ drop (h * (1 + 2 * n)) a = drop-drop h ((h + h) * n) a ∙ ap (λ (k : ℕ). drop k a) (omega arith) in
    ap (λ (r : Row). take h r) (drop-take h h (drop ((h + h) * n) a) ∙ rw at refl) ∙ take_front h h (drop (h * (1 + 2 * n)) a) (omega arith)
halved h n a false = take_front h (h + h) (drop ((h + h) * n) a) (omega arith) ∙ ap (λ (k : ℕ). take h (drop k a)) (omega arith)

pub halved_at : (h k : ℕ) (a s : Row) → k < length s
    → mux_fn (slice_fn h 0 (slice_number (h + h) a (num (drop (suc k) s)))) (slice_fn h h (slice_number (h + h) a (num (drop (suc k) s)))) (some_bit (slice_fn 1 k s)) ≡ slice_number h a (num (drop k s))
halved_at h k a s l = rw (one_bit s k l, num-drop s k l) (halved h (num (drop (suc k) s)) a (get_or s k false))

pub number_of_none : (w : ℕ) (a s : Row) (k : ℕ) → length s ≤ k → length a ≡ w → a ≡ slice_number w a (num (drop k s))
number_of_none w a s k h e = rw (drop_all k s h, mul-zero w) (whole_slice a w 0 e refl)

-- rows of one digit
zeros : (y : ℕ) → low_bits y 0 ≡ replicate y false
zeros zero = refl
zeros (suc y) = ap (λ (r : Row). false ∷ r) (zeros y)

turned_digits : (y : ℕ) → map not (replicate y false) ≡ replicate y true
turned_digits zero = refl
turned_digits (suc y) = ap (λ (r : Row). true ∷ r) (turned_digits y)

pub all_zero : (y : ℕ) → fit y (pos 0) ≡ replicate y false
all_zero y = let e : 0 % 2 ^ y ≡ 0 = omega (arith, pow_pos y) in rw e (zeros y)

pub all_ones : (y : ℕ) → fit y (negsuc 0) ≡ replicate y true
all_ones y = sym (not_row y (pos 0)) ∙ ap (λ (r : Row). map not r) (all_zero y) ∙ turned_digits y

-- a row of which each bit is one digit
pub all_same : (x : Bool) (r : Row) → list_all (λ b. beq b x) r ≡ true → r ≡ replicate (length r) x
all_same x [] h = refl
all_same true (true ∷ r) h = ap (λ (s : Row). true ∷ s) (all_same true r h)
all_same false (false ∷ r) h = ap (λ (s : Row). false ∷ s) (all_same false r h)
all_same true (false ∷ r) h = absurd (true≢false (sym h))
all_same false (true ∷ r) h = absurd (true≢false (sym h))
