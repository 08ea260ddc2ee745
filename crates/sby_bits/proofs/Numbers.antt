-- Rows and their numbers, bit by bit.
use Rattle.std.proofs.Common.{◌≡◌, ℕ, zero, suc, ◌+◌, ◌-◌, ◌*◌, ◌/◌, ◌%◌, ◌^◌, ◌<◌, ◌≤◌, Bool, true, false, cond, not, ◌&&◌, eqb, [], ◌∷◌, map, length, take, get_or, refl, sym, ◌∙◌, ap, arith}
use Rattle.std.proofs.lemmas.Bool.Decides.{nat_tests}
use Rattle.std.proofs.lemmas.Nat.{pow_pos, shr-shr, mod-pow-add, mod_below}
use Rattle.std.proofs.lemmas.Nat.Bits.{bit_at-zero}
use Rattle.std.proofs.lemmas.Int.{ints}
use Rattle.std.proofs.lemmas.List.{ext_get_or, length-take-le}
use Rattle.std.proofs.Math.Nat.{pow-suc}
use Rattle.std.proofs.Math.Numerals.{add-one}
use Rattle.std.specs.Prelude.{ℤ, pos, negsuc, ◌-ℤ◌}
use Rattle.std.specs.Int.{int_div_euclid}
use Rattle.sby_bits.specs.Rows.{Row, num, top_bit, snum, residue, low_bits, fit, value}
use Rattle.sby_bits.specs.Words.{filled_number}

-- the bit at a place of a whole number, in two's complement without end
abbrev pub bit_of : ℤ → ℕ → Bool
bit_of (pos n) i = eqb (n / 2 ^ i % 2) 1
bit_of (negsuc n) i = eqb (n / 2 ^ i % 2) 0

pub half_first : (n i : ℕ) → n / 2 ^ suc i ≡ n / 2 / 2 ^ i
half_first n i = ap (λ (k : ℕ). n / 2 ^ k) (omega arith) ∙ sym (shr-shr n 1 i)

pub length-low_bits : (y n : ℕ) → length (low_bits y n) ≡ y
length-low_bits zero n = refl
length-low_bits (suc y) n = ap suc (length-low_bits y (n / 2))

pub low_bits-at : (y n i : ℕ) → i < y → get_or (low_bits y n) i false ≡ eqb (n / 2 ^ i % 2) 1
low_bits-at zero n i h = absurd (omega arith)
low_bits-at (suc y) n zero h = ap (λ (x : ℕ). eqb (x % 2) 1) (omega arith)
low_bits-at (suc y) n (suc i) h = low_bits-at y (n / 2) i (omega arith) ∙ ap (λ (x : ℕ). eqb (x % 2) 1) (sym (half_first n i))

mod_parts : (y n : ℕ) → n % 2 ^ suc y ≡ (n / 2 % 2 ^ y) * 2 + n % 2
mod_parts y n = ap (λ (k : ℕ). n % 2 ^ k) (omega arith) ∙ mod-pow-add n y 1

pub low_bits-mod : (y n : ℕ) → low_bits y (n % 2 ^ y) ≡ low_bits y n
low_bits-mod zero n = refl
low_bits-mod (suc y) n =
    let e : n % 2 ^ suc y ≡ (n / 2 % 2 ^ y) * 2 + n % 2 = mod_parts y n in
    let odd : n % 2 ^ suc y % 2 ≡ n % 2 = omega arith in
    let half : n % 2 ^ suc y / 2 ≡ n / 2 % 2 ^ y = omega arith in
    rw (odd, half, low_bits-mod y (n / 2)) refl

other_bit : (x : ℕ) → x < 2 → eqb (1 - x) 1 ≡ eqb x 0
other_bit x h = grind (arith, nat_tests)

-- the bits of the number that has all others
low_bits-turned : (y n i : ℕ) → i < y → n < 2 ^ y → get_or (low_bits y (2 ^ y - 1 - n)) i false ≡ eqb (n / 2 ^ i % 2) 0
low_bits-turned zero n i h below = absurd (omega arith)
low_bits-turned (suc y) n zero h below =
    let p : 2 ^ suc y ≡ 2 ^ y * 2 = pow-suc 2 y in
    let e : (2 ^ suc y - 1 - n) % 2 ≡ 1 - n % 2 = omega arith in
    let whole : n / 2 ^ 0 ≡ n = omega arith in
    rw (e, whole) (other_bit (n % 2) (omega arith))
low_bits-turned (suc y) n (suc i) h below =
    let p : 2 ^ suc y ≡ 2 ^ y * 2 = pow-suc 2 y in
    let e : (2 ^ suc y - 1 - n) / 2 ≡ 2 ^ y - 1 - n / 2 = omega arith in
    rw (e, half_first n i) (low_bits-turned y (n / 2) i (omega arith) (omega arith))

bit-mod : (y n i : ℕ) → i < y → n % 2 ^ y / 2 ^ i % 2 ≡ n / 2 ^ i % 2
bit-mod zero n i h = absurd (omega arith)
bit-mod (suc y) n zero h =
    let e : n % 2 ^ suc y ≡ (n / 2 % 2 ^ y) * 2 + n % 2 = mod_parts y n in
    omega arith
bit-mod (suc y) n (suc i) h =
    let e : n % 2 ^ suc y ≡ (n / 2 % 2 ^ y) * 2 + n % 2 = mod_parts y n in
    let half : n % 2 ^ suc y / 2 ≡ n / 2 % 2 ^ y = omega arith in
    rw (half_first (n % 2 ^ suc y) i, half, half_first n i) (bit-mod y (n / 2) i (omega arith))

pub length-fit : (y : ℕ) (z : ℤ) → length (fit y z) ≡ y
length-fit y z = length-low_bits y (residue z (2 ^ y))

pub fit-at : (y : ℕ) (z : ℤ) (i : ℕ) → i < y → get_or (fit y z) i false ≡ bit_of z i
fit-at y (pos n) i h = rw (low_bits-mod y n) (low_bits-at y n i h)
fit-at y (negsuc n) i h =
    low_bits-turned y (n % 2 ^ y) i h (mod_below n (2 ^ y) (pow_pos y)) ∙ ap (λ (x : ℕ). eqb x 0) (bit-mod y n i h)

-- a row of that length and with those bits is that number's row
pub row_is : (r : Row) (y : ℕ) (z : ℤ) → length r ≡ y → ((k : ℕ) → k < y → get_or r k false ≡ bit_of z k) → r ≡ fit y z
row_is r y z e bits =
    ext_get_or false r (fit y z) (e ∙ sym (length-fit y z))
    (λ k h. let within : k < y = omega arith in bits k within ∙ sym (fit-at y z k within))

lowest : (b : Bool) (n : ℕ) → b ≡ eqb ((cond b 1 0 + 2 * n) / 1 % 2) 1
lowest true n = rw (let e : (1 + 2 * n) / 1 % 2 ≡ 1 = omega arith in e) refl
lowest false n = rw (let e : (0 + 2 * n) / 1 % 2 ≡ 0 = omega arith in e) refl

above : (b : Bool) (n : ℕ) → (cond b 1 0 + 2 * n) / 2 ≡ n
above true n = omega arith
above false n = omega arith

-- the bits of a row are those of its number
pub num-at : (r : Row) (i : ℕ) → get_or r i false ≡ bit_of (pos (num r)) i
num-at [] i = ap (λ (x : ℕ). eqb x 1) (sym (bit_at-zero i))
num-at (b ∷ r) zero = lowest b (num r)
num-at (b ∷ r) (suc i) = rw (half_first (num (b ∷ r)) i, above b (num r)) (num-at r i)

-- the number of all other bits
pub num-turned : (r : Row) → num r + num (map not r) + 1 ≡ 2 ^ length r
num-turned [] = refl
num-turned (true ∷ r) = omega (arith, num-turned r, pow-suc 2 (length r))
num-turned (false ∷ r) = omega (arith, num-turned r, pow-suc 2 (length r))

turned-lowest : (b : Bool) (n : ℕ) → b ≡ eqb ((cond (not b) 1 0 + 2 * n) / 1 % 2) 0
turned-lowest true n = rw (let e : (0 + 2 * n) / 1 % 2 ≡ 0 = omega arith in e) refl
turned-lowest false n = rw (let e : (1 + 2 * n) / 1 % 2 ≡ 1 = omega arith in e) refl

turned-at : (r : Row) (i : ℕ) → get_or r i true ≡ bit_of (negsuc (num (map not r))) i
turned-at [] i = ap (λ (x : ℕ). eqb x 0) (sym (bit_at-zero i))
turned-at (b ∷ r) zero = turned-lowest b (num (map not r))
turned-at (b ∷ r) (suc i) = rw (half_first (num (map not (b ∷ r))) i, above (not b) (num (map not r))) (turned-at r i)

pub filled_ones : (r : Row) → filled_number r true ≡ negsuc (num (map not r))
filled_ones r = let e : num r + num (map not r) + 1 ≡ 2 ^ length r = num-turned r in omega (arith, ints)

pub filled-at : (r : Row) (fill : Bool) (i : ℕ) → get_or r i fill ≡ bit_of (filled_number r fill) i
filled-at r true i = rw (filled_ones r) (turned-at r i)
filled-at r false i = num-at r i

pub whole : (z : ℤ) → int_div_euclid z (pos 1) ≡ z
whole (pos n) = ap pos (omega arith)
whole (negsuc n) = ap negsuc (omega arith)

pub down-at : (z : ℤ) (k i : ℕ) → bit_of (int_div_euclid z (pos (2 ^ k))) i ≡ bit_of z (k + i)
down-at (pos n) k i = ap (λ (x : ℕ). eqb (x % 2) 1) (shr-shr n k i)
down-at (negsuc n) k i = ap (λ (x : ℕ). eqb (x % 2) 0) (shr-shr n k i)

-- a row whose bits are those of another from a place on
pub copied_down : (r a : Row) (y from : ℕ) (fill : Bool) → length r ≡ y → ((k : ℕ) → k < y → get_or r k false ≡ get_or a (k + from) fill) → r ≡ fit y (int_div_euclid (filled_number a fill) (pos (2 ^ from)))
copied_down r a y from fill e bits = row_is r y (int_div_euclid (filled_number a fill) (pos (2 ^ from))) e
    (λ k h.
    bits k h ∙ ap (λ (i : ℕ). get_or a i fill) (omega arith)
    ∙ filled-at a fill (from + k) ∙ sym (down-at (filled_number a fill) from k))

pub top_bit-at : (r : Row) → top_bit r ≡ get_or r (length r - 1) false
top_bit-at [] = refl
top_bit-at (b ∷ []) = refl
top_bit-at (b ∷ c ∷ r) =
    let e : suc (suc (length r)) - 1 ≡ suc (suc (length r) - 1) = omega arith in
    rw e (top_bit-at (c ∷ r))

-- from place 0 on, with the sign or zeros above, a row keeps its value
pub extended : (r : Row) (signed fill : Bool) → fill ≡ (signed && top_bit r) → int_div_euclid (filled_number r fill) (pos (2 ^ 0)) ≡ value signed r
extended r true fill e = rw e (whole (snum r))
extended r false fill e = rw e (whole (pos (num r)))

-- the bits of a row's value are its own, and above it its sign or zeros
pub value-at : (r : Row) (signed : Bool) (i : ℕ) → bit_of (value signed r) i ≡ get_or r i (signed && top_bit r)
value-at r true i = sym (filled-at r (top_bit r) i)
value-at r false i = sym (filled-at r false i)

odd_turned : (m : ℕ) → eqb (m % 2) 0 ≡ not (eqb (m % 2) 1)
odd_turned m = grind (arith, nat_tests)

even_turned : (m : ℕ) → eqb (m % 2) 1 ≡ not (eqb (m % 2) 0)
even_turned m = grind (arith, nat_tests)

-- -1 less z has the opposite bits of z
pub complement-at : (z : ℤ) (i : ℕ) → bit_of (negsuc 0 -ℤ z) i ≡ not (bit_of z i)
complement-at (pos n) i =
    let e : negsuc 0 -ℤ pos n ≡ negsuc n = omega (arith, ints) in
    rw e (odd_turned (n / 2 ^ i))
complement-at (negsuc n) i =
    let e : negsuc 0 -ℤ negsuc n ≡ pos n = omega (arith, ints) in
    rw e (even_turned (n / 2 ^ i))

pub num-lt : (r : Row) → num r < 2 ^ length r
num-lt r = omega (arith, num-turned r)

bit-lt : (b : Bool) → cond b 1 0 < 2
bit-lt true = omega arith
bit-lt false = omega arith

twice_bit : (b : Bool) (i : ℕ) → 2 * cond b (2 ^ i) 0 ≡ cond b (2 ^ suc i) 0
twice_bit true i = omega (arith, pow-suc 2 i)
twice_bit false i = refl

first_bit : (b : Bool) → cond b 1 0 + 2 * 0 ≡ 0 + cond b 1 0
first_bit true = refl
first_bit false = refl

num-take-suc : (r : Row) (i : ℕ) → i < length r → num (take (suc i) r) ≡ num (take i r) + cond (get_or r i false) (2 ^ i) 0
num-take-suc [] i h = absurd (omega arith)
num-take-suc (b ∷ r) zero h = first_bit b
num-take-suc (b ∷ r) (suc i) h =
    omega (arith, num-take-suc r i (omega arith), twice_bit (get_or r i false) i)

-- one bit more of a row
pub num-take : (r : Row) (i : ℕ) → i < length r → num (take (i + 1) r) ≡ num (take i r) + cond (get_or r i false) (2 ^ i) 0
num-take r i h = rw (add-one i) (num-take-suc r i h)

pub num-take-lt : (r : Row) (i : ℕ) → i ≤ length r → num (take i r) < 2 ^ i
num-take-lt r i h = let e : length (take i r) ≡ i = length-take-le i r h in rw e at (num-lt (take i r))

-- the last bit tells the upper half from the lower
pub low_half : (r : Row) → top_bit r ≡ false → 2 * num r < 2 ^ length r
low_half [] e = omega arith
low_half (true ∷ []) e = cc
low_half (false ∷ []) e = omega arith
low_half (b ∷ c ∷ r) e = omega (arith, low_half (c ∷ r) e, pow-suc 2 (suc (length r)), pow-suc 2 (length r), bit-lt b)

pub high_half : (r : Row) → top_bit r ≡ true → 2 ^ length r ≤ 2 * num r
high_half [] e = cc
high_half (true ∷ []) e = omega arith
high_half (false ∷ []) e = cc
high_half (b ∷ c ∷ r) e = omega (arith, high_half (c ∷ r) e, pow-suc 2 (suc (length r)))
