-- What the definitions of rows mean.
use Rattle.std.proofs.Common.{◌≡◌, ◌≢◌, ℕ, zero, suc, ◌+◌, ◌-◌, ◌*◌, ◌/◌, ◌%◌, ◌^◌, ◌<◌, ◌≤◌, Bool, true, false, cond, eqb, ◌&&◌, [], ◌∷◌, ◌++◌, length, get_or, refl, sym, ◌∙◌, ap, inl, inr, arith}
use Rattle.std.proofs.lemmas.Bool.{cases_lt, cases_Bool}
use Rattle.std.proofs.lemmas.Bool.Decides.{nat_tests}
use Rattle.std.proofs.lemmas.Int.{ints, quot-rem, rem_below}
use Rattle.std.proofs.lemmas.List.{get_or_default, get_or_append_left, get_or-append-add}
use Rattle.std.proofs.lemmas.Nat.{mod-pow-add, pow_pos, mod_below}
use Rattle.std.proofs.Math.Nat.{pow-suc, mod-eq_of_lt, div-eq_of_lt}
use Rattle.std.proofs.Math.Pow.{pow_mono}
use Rattle.std.specs.Prelude.{ℤ, pos, negsuc, ◌+ℤ◌, ◌-ℤ◌, ◌*ℤ◌, ◌≤ℤ◌, ◌<ℤ◌, unsigned_abs}
use Rattle.std.specs.Int.{int_rem_euclid, int_div_euclid}
use Rattle.sby_bits.specs.Rows.{Row, num, top_bit, snum, residue, low_bits, fit, ext, value}
use Rattle.sby_bits.specs.Words.{quotient, remainder, filled_number, moved_number, bit_at, left_shift_row, right_shift_row, any_shift_row, slice_row, concat_row}
use Rattle.sby_bits.proofs.Numbers.{bit_of, fit-at, value-at, filled-at, down-at, num-at, num-lt, length-fit, row_is, top_bit-at, low_half, high_half}
use Rattle.sby_bits.proofs.Moves.{up-at_low, up-at_high, num-append}

odd_part : (n : ℕ) → cond (eqb (n % 2) 1) 1 0 ≡ n % 2
odd_part n = grind (arith, nat_tests)

pub num-low_bits : (y n : ℕ) → num (low_bits y n) ≡ n % 2 ^ y
num-low_bits zero n = omega arith
num-low_bits (suc y) n =
    let parts : n % 2 ^ suc y ≡ (n / 2 % 2 ^ y) * 2 + n % 2 = ap (λ (k : ℕ). n % 2 ^ k) (omega arith) ∙ mod-pow-add n y 1 in
    omega (arith, num-low_bits y (n / 2), odd_part n)

residue-lt : (y : ℕ) (z : ℤ) → residue z (2 ^ y) < 2 ^ y
residue-lt y (pos n) = mod_below n (2 ^ y) (pow_pos y)
residue-lt y (negsuc n) = omega (arith, pow_pos y)

pub num-fit : (y : ℕ) (z : ℤ) → num (fit y z) ≡ residue z (2 ^ y)
num-fit y z = num-low_bits y (residue z (2 ^ y)) ∙ mod-eq_of_lt (residue-lt y z)

pub row_again : (r : Row) → fit (length r) (pos (num r)) ≡ r
row_again r = sym (row_is r (length r) (pos (num r)) refl (λ k _. num-at r k))

pub signed_again : (r : Row) → fit (length r) (snum r) ≡ r
signed_again r =
    sym
    (row_is r (length r) (snum r) refl
    (λ k h. get_or_default r k false (top_bit r) h ∙ filled-at r (top_bit r) k))

pub residue_euclid : (z : ℤ) (m : ℕ) → pos (residue z m) ≡ int_rem_euclid z (pos m)
residue_euclid (pos n) m = refl
residue_euclid (negsuc n) m = refl

pub snum_least : (r : Row) (y : ℕ) → length r ≡ suc y → (pos 0 -ℤ pos (2 ^ y)) ≤ℤ snum r
snum_least r y e =
    let whole : 2 ^ length r ≡ 2 ^ y * 2 = rw e (pow-suc 2 y) in
    elim (cases_Bool (top_bit r)) as (λ _. (pos 0 -ℤ pos (2 ^ y)) ≤ℤ snum r) [
      | inl top ↦ let high = high_half r top in rw top (omega (arith, ints))
      | inr low ↦ rw low (omega (arith, ints))
    ]

pub snum_most : (r : Row) (y : ℕ) → length r ≡ suc y → snum r <ℤ pos (2 ^ y)
snum_most r y e =
    let whole : 2 ^ length r ≡ 2 ^ y * 2 = rw e (pow-suc 2 y) in
    elim (cases_Bool (top_bit r)) as (λ _. snum r <ℤ pos (2 ^ y)) [
      | inl top ↦ let below = num-lt r in let some = pow_pos y in rw top (omega (arith, ints))
      | inr low ↦ let half = low_half r low in rw low (omega (arith, ints))
    ]

top_bit-fit : (y : ℕ) (z : ℤ) → top_bit (fit (suc y) z) ≡ bit_of z y
top_bit-fit y z =
    let last : length (fit (suc y) z) - 1 ≡ y = omega (arith, length-fit (suc y) z) in
    top_bit-at (fit (suc y) z) ∙ rw last (fit-at (suc y) z y (omega arith))

pub snum-fit : (y : ℕ) (z : ℤ) → (pos 0 -ℤ pos (2 ^ y)) ≤ℤ z → z <ℤ pos (2 ^ y) → snum (fit (suc y) z) ≡ z
snum-fit y (pos n) least most =
    let small : n < 2 ^ y = omega (arith, ints) in
    let far : n / 2 ^ y ≡ 0 = div-eq_of_lt small in
    let low : top_bit (fit (suc y) (pos n)) ≡ false = top_bit-fit y (pos n) ∙ rw far refl in
    let whole : n % 2 ^ suc y ≡ n = mod-eq_of_lt (omega (arith, pow-suc 2 y)) in
    rw (low, num-fit (suc y) (pos n), whole) refl
snum-fit y (negsuc n) least most =
    let small : n < 2 ^ y = omega (arith, ints) in
    let far : n / 2 ^ y ≡ 0 = div-eq_of_lt small in
    let high : top_bit (fit (suc y) (negsuc n)) ≡ true = top_bit-fit y (negsuc n) ∙ rw far refl in
    let doubled : 2 ^ suc y ≡ 2 ^ y * 2 = pow-suc 2 y in
    let whole : n % 2 ^ suc y ≡ n = mod-eq_of_lt (omega arith) in
    rw (high, num-fit (suc y) (negsuc n), length-fit (suc y) (negsuc n), whole) (omega (arith, ints))

pub num-fit_small : (y n : ℕ) → n < 2 ^ y → num (fit y (pos n)) ≡ n
num-fit_small y n h = num-fit y (pos n) ∙ mod-eq_of_lt h

pub extended_longer : (r : Row) (signed : Bool) (y : ℕ) → length r ≤ y → value signed (ext r signed y) ≡ value signed r
extended_longer r false y h =
    let room : 2 ^ length r ≤ 2 ^ y = pow_mono h in
    ap pos (num-fit_small y (num r) (omega (arith, num-lt r)))
extended_longer [] true zero h = refl
extended_longer (b ∷ r) true zero h = absurd (omega arith)
extended_longer [] true (suc y) h = snum-fit y (pos 0) (omega (arith, ints, pow_pos y)) (omega (arith, ints, pow_pos y))
extended_longer (b ∷ r) true (suc y) h =
    let shorter : length r ≤ y = omega arith in
    let room : 2 ^ length r ≤ 2 ^ y = pow_mono shorter in
    let least = snum_least (b ∷ r) (length r) refl in
    let most = snum_most (b ∷ r) (length r) refl in
    snum-fit y (snum (b ∷ r)) (omega (arith, ints)) (omega (arith, ints))

pub extended_bits : (r : Row) (signed : Bool) (y i : ℕ) → i < y → get_or (ext r signed y) i false ≡ get_or r i (signed && top_bit r)
extended_bits r signed y i h = fit-at y (value signed r) i h ∙ value-at r signed i

up_bits : (a : Row) (p y i : ℕ) → i < y → get_or (fit y (pos (num a * 2 ^ p))) i false ≡ bit_at a (pos i -ℤ pos p)
up_bits a p y i h =
    fit-at y (pos (num a * 2 ^ p)) i h
    ∙ elim (cases_lt i p) as (λ _. bit_of (pos (num a * 2 ^ p)) i ≡ bit_at a (pos i -ℤ pos p)) [
      | inl low ↦
          let below : pos i -ℤ pos p ≡ negsuc (p - i - 1) = omega (arith, ints) in
          up-at_low (num a) p i low ∙ ap (bit_at a) (sym below)
      | inr high ↦
          let place : pos i -ℤ pos p ≡ pos (i - p) = omega (arith, ints) in
          up-at_high (num a) p i high ∙ sym (num-at a (i - p)) ∙ ap (bit_at a) (sym place)
    ]

pub left_bits : (a by : Row) (y i : ℕ) → i < y → get_or (left_shift_row a by y) i false ≡ bit_at a (pos i -ℤ pos (num by))
left_bits a by y i h = up_bits a (num by) y i h

pub right_bits : (a by : Row) (fill : Bool) (y i : ℕ) → i < y → get_or (right_shift_row a by fill y) i false ≡ get_or a (i + num by) fill
right_bits a by fill y i h =
    fit-at y (int_div_euclid (filled_number a fill) (pos (2 ^ num by))) i h ∙ down-at (filled_number a fill) (num by) i
    ∙ sym (filled-at a fill (num by + i)) ∙ ap (λ (k : ℕ). get_or a k fill) (omega arith)

moved_bits : (a : Row) (v : ℤ) (y i : ℕ) → i < y → get_or (fit y (pos (moved_number (num a) v))) i false ≡ bit_at a (pos i +ℤ v)
moved_bits a (pos b) y i h =
    fit-at y (pos (num a / 2 ^ b)) i h ∙ down-at (pos (num a)) b i ∙ sym (num-at a (b + i))
    ∙ ap (λ (k : ℕ). get_or a k false) (omega arith)
moved_bits a (negsuc b) y i h = up_bits a (suc b) y i h

pub any_bits : (a by : Row) (by_signed : Bool) (y i : ℕ) → i < y → get_or (any_shift_row a by by_signed y) i false ≡ bit_at a (pos i +ℤ value by_signed by)
any_bits a by by_signed y i h = moved_bits a (value by_signed by) y i h

pub slice_bits : (a : Row) (offset y i : ℕ) → i < y → get_or (slice_row a offset y) i false ≡ get_or a (i + offset) false
slice_bits a offset y i h = moved_bits a (pos offset) y i h

concat-at : (a b : Row) (y i : ℕ) → i < y → get_or (concat_row a b y) i false ≡ get_or (a ++ b) i false
concat-at a b y i h =
    fit-at y (pos (num a + 2 ^ length a * num b)) i h ∙ ap (λ (n : ℕ). bit_of (pos n) i) (sym (num-append a b)) ∙ sym (num-at (a ++ b) i)

pub concat_low_bits : (a b : Row) (y i : ℕ) → i < y → i < length a → get_or (concat_row a b y) i false ≡ get_or a i false
concat_low_bits a b y i h low = concat-at a b y i h ∙ get_or_append_left a b false i low

pub concat_high_bits : (a b : Row) (y i : ℕ) → length a + i < y → get_or (concat_row a b y) (length a + i) false ≡ get_or b i false
concat_high_bits a b y i h = concat-at a b y (length a + i) h ∙ get_or-append-add a b i false

pub quotient_whole : (m n : ℤ) → quotient m n *ℤ n +ℤ remainder m n ≡ m
quotient_whole (pos m) (pos zero) = omega (arith, ints)
quotient_whole (negsuc m) (pos zero) = omega (arith, ints)
quotient_whole (pos m) (pos (suc n)) = quot-rem (pos m) (pos (suc n))
quotient_whole (negsuc m) (pos (suc n)) = quot-rem (negsuc m) (pos (suc n))
quotient_whole (pos m) (negsuc n) = quot-rem (pos m) (negsuc n)
quotient_whole (negsuc m) (negsuc n) = quot-rem (negsuc m) (negsuc n)

pub remainder_small : (m n : ℤ) → n ≢ pos 0 → unsigned_abs (remainder m n) < unsigned_abs n
remainder_small m (pos zero) h = absurd (h refl)
remainder_small m (pos (suc n)) h = rem_below m (pos (suc n)) (omega arith)
remainder_small m (negsuc n) h = rem_below m (negsuc n) (omega arith)

pub remainder_not_negative : (m n : ℤ) → pos 0 ≤ℤ m → pos 0 ≤ℤ remainder m n
remainder_not_negative m (pos zero) h = h
remainder_not_negative (pos m) (pos (suc n)) h = omega (arith, ints)
remainder_not_negative (pos m) (negsuc n) h = omega (arith, ints)
remainder_not_negative (negsuc m) n h = absurd (omega (arith, ints))

pub remainder_not_positive : (m n : ℤ) → m ≤ℤ pos 0 → remainder m n ≤ℤ pos 0
remainder_not_positive m (pos zero) h = h
remainder_not_positive (pos zero) (pos (suc n)) h = omega (arith, ints)
remainder_not_positive (pos zero) (negsuc n) h = omega (arith, ints)
remainder_not_positive (pos (suc m)) n h = absurd (omega (arith, ints))
remainder_not_positive (negsuc m) (pos (suc n)) h = omega (arith, ints)
remainder_not_positive (negsuc m) (negsuc n) h = omega (arith, ints)
