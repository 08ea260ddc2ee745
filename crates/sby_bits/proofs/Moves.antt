-- Rows moved up and down, by any number of places.
use Rattle.std.proofs.Common.{◌≡◌, ℕ, suc, ◌+◌, ◌-◌, ◌*◌, ◌/◌, ◌%◌, ◌^◌, ◌<◌, ◌≤◌, min, Bool, true, false, cond, not, [], ◌∷◌, ◌++◌, map, length, take, drop, get_or, refl, sym, ◌∙◌, ap, inl, inr, arith}
use Rattle.std.proofs.lemmas.Bool.{cases_lt}
use Rattle.std.proofs.lemmas.Nat.{pow-add, shl-shr, shr-shr}
use Rattle.std.proofs.lemmas.List.{get_or_past, get_or-map, length-map, length-drop, length-take-le, get_or-take, get_or-drop}
use Rattle.std.proofs.Math.Nat.{pow-suc, mul_assoc, mul_comm}
use Rattle.std.proofs.Math.Bool.{beq}
use Rattle.std.specs.Prelude.{ℤ, pos, negsuc}
use Rattle.std.specs.Int.{int_div_euclid}
use Rattle.sby_bits.specs.Rows.{Row, num, top_bit, snum, fit}
use Rattle.sby_bits.specs.Words.{filled_number}
use Rattle.sby_bits.proofs.Numbers.{bit_of, filled_ones, num-at, filled-at, down-at, row_is, fit-at, length-fit, num-take}

pub up-at_low : (n p k : ℕ) → k < p → bit_of (pos (n * 2 ^ p)) k ≡ false
up-at_low n p k h =
    let parts : 2 ^ p ≡ 2 ^ (p - k - 1) * 2 * 2 ^ k =
    ap (λ (j : ℕ). 2 ^ j) (omega arith) ∙ pow-add 2 (suc (p - k - 1)) k ∙ ap (λ (m : ℕ). m * 2 ^ k) (pow-suc 2 (p - k - 1)) in
    let e : n * 2 ^ p / 2 ^ k ≡ n * (2 ^ (p - k - 1) * 2) =
    ap (λ (m : ℕ). n * m / 2 ^ k) parts ∙ ap (λ (m : ℕ). m / 2 ^ k) (sym (mul_assoc n (2 ^ (p - k - 1) * 2) (2 ^ k))) ∙ shl-shr (n * (2 ^ (p - k - 1) * 2)) k in
    let twice : n * (2 ^ (p - k - 1) * 2) ≡ n * 2 ^ (p - k - 1) * 2 = sym (mul_assoc n (2 ^ (p - k - 1)) 2) in
    let even : n * 2 ^ p / 2 ^ k % 2 ≡ 0 = omega arith in
    rw even refl

pub up-at_high : (n p k : ℕ) → p ≤ k → bit_of (pos (n * 2 ^ p)) k ≡ bit_of (pos n) (k - p)
up-at_high n p k h =
    let e : n * 2 ^ p / 2 ^ k ≡ n / 2 ^ (k - p) =
    ap (λ (j : ℕ). n * 2 ^ p / 2 ^ j) (let j : k ≡ p + (k - p) = omega arith in j)
    ∙ sym (shr-shr (n * 2 ^ p) p (k - p)) ∙ ap (λ (m : ℕ). m / 2 ^ (k - p)) (shl-shr n p) in
    rw e refl

-- a row whose bits are those of another from a place up, over zeros
pub copied_up : (r a : Row) (y p : ℕ) → length r ≡ y → ((k : ℕ) → k < y → k < p → get_or r k false ≡ false) → ((k : ℕ) → k < y → p ≤ k → get_or r k false ≡ get_or a (k - p) false) → r ≡ fit y (pos (num a * 2 ^ p))
copied_up r a y p e low high =
    row_is r y (pos (num a * 2 ^ p)) e
    (λ k h.
    elim (cases_lt k p) as (λ _. get_or r k false ≡ bit_of (pos (num a * 2 ^ p)) k) [
      | inl under ↦ low k h under ∙ sym (up-at_low (num a) p k under)
      | inr over ↦ high k h over ∙ num-at a (k - p) ∙ sym (up-at_high (num a) p k over)
    ])

-- past its length a row holds zeros, however far it moves up
up_far : (y n j k : ℕ) → y ≤ j → y ≤ k → fit y (pos (n * 2 ^ j)) ≡ fit y (pos (n * 2 ^ k))
up_far y n j k g h =
    row_is (fit y (pos (n * 2 ^ j))) y (pos (n * 2 ^ k)) (length-fit y (pos (n * 2 ^ j)))
    (λ i l. fit-at y (pos (n * 2 ^ j)) i l ∙ up-at_low n j i (omega arith) ∙ sym (up-at_low n k i (omega arith)))

pub up_saturated : (y n k most s : ℕ) → y ≤ most → s ≡ min k most → fit y (pos (n * 2 ^ s)) ≡ fit y (pos (n * 2 ^ k))
up_saturated y n k most s h e =
    elim (cases_lt k most) as (λ _. fit y (pos (n * 2 ^ s)) ≡ fit y (pos (n * 2 ^ k))) [
      | inl under ↦ ap (λ (j : ℕ). fit y (pos (n * 2 ^ j))) (omega arith)
      | inr over ↦ up_far y n s k (omega arith) (omega arith)
    ]

down_far : (r : Row) (fill : Bool) (y j k : ℕ) → length r ≤ j → length r ≤ k → fit y (int_div_euclid (filled_number r fill) (pos (2 ^ j))) ≡ fit y (int_div_euclid (filled_number r fill) (pos (2 ^ k)))
down_far r fill y j k g h =
    let far : (m i : ℕ) → length r ≤ m → bit_of (int_div_euclid (filled_number r fill) (pos (2 ^ m))) i ≡ fill =
    λ m i l. down-at (filled_number r fill) m i ∙ sym (filled-at r fill (m + i)) ∙ get_or_past r (m + i) fill (omega arith) in
    let z : ℤ = int_div_euclid (filled_number r fill) (pos (2 ^ j)) in
    row_is (fit y z) y (int_div_euclid (filled_number r fill) (pos (2 ^ k))) (length-fit y z)
    (λ i l. fit-at y z i l ∙ far j i g ∙ sym (far k i h))

pub down_saturated : (r : Row) (fill : Bool) (y k most s : ℕ) → length r ≤ most → s ≡ min k most → fit y (int_div_euclid (filled_number r fill) (pos (2 ^ s))) ≡ fit y (int_div_euclid (filled_number r fill) (pos (2 ^ k)))
down_saturated r fill y k most s h e =
    elim (cases_lt k most) as (λ _. fit y (int_div_euclid (filled_number r fill) (pos (2 ^ s))) ≡ fit y (int_div_euclid (filled_number r fill) (pos (2 ^ k)))) [
      | inl under ↦ ap (λ (j : ℕ). fit y (int_div_euclid (filled_number r fill) (pos (2 ^ j)))) (omega arith)
      | inr over ↦ down_far r fill y s k (omega arith) (omega arith)
    ]

-- a number below zero by the bits that it lacks
pub snum_ones : (r : Row) → top_bit r ≡ true → snum r ≡ negsuc (num (map not r))
snum_ones r e = rw e (filled_ones r)

turned-get : (by : Row) (turned : Bool) (i : ℕ) → i < length by → get_or (cond turned (map not by) by) i false ≡ cond turned (not (get_or by i false)) (get_or by i false)
turned-get by true i h = get_or-map not by i false false h
turned-get by false i h = refl

length-turned : (by : Row) (turned : Bool) → length (cond turned (map not by) by) ≡ length by
length-turned by true = length-map by not
length-turned by false = refl

differs : (b turned v : Bool) → not (beq b turned) ≡ v → cond turned (not b) b ≡ v
differs true true v h = h
differs true false v h = h
differs false true v h = h
differs false false v h = h

-- the number of one place more, as it is or turned
pub place_more : (by : Row) (turned v : Bool) (i : ℕ) → i < length by → not (beq (get_or by i false) turned) ≡ v → num (take (i + 1) (cond turned (map not by) by)) ≡ num (take i (cond turned (map not by) by)) + cond v (2 ^ i) 0
place_more by turned v i h e =
    let row : Row = cond turned (map not by) by in
    let bit : get_or row i false ≡ v = turned-get by turned i h ∙ differs (get_or by i false) turned v e in
    rw bit at (num-take row i (rw length-turned (h)))

-- b above a
pub num-append : (a b : Row) → num (a ++ b) ≡ num a + 2 ^ length a * num b
num-append [] b = omega arith
num-append (x ∷ a) b =
    let doubled : 2 ^ suc (length a) * num b ≡ 2 * (2 ^ length a * num b) =
    ap (λ (m : ℕ). m * num b) (pow-suc 2 (length a) ∙ mul_comm (2 ^ length a) 2) ∙ mul_assoc 2 (2 ^ length a) (num b) in
    omega (arith, num-append a b)

pub joined : (r a b : Row) (y : ℕ) → length r ≡ y → ((k : ℕ) → k < y → get_or r k false ≡ get_or (a ++ b) k false) → r ≡ fit y (pos (num a + 2 ^ length a * num b))
joined r a b y e bits = row_is r y (pos (num a + 2 ^ length a * num b)) e (λ k h. bits k h ∙ num-at (a ++ b) k ∙ ap (λ (n : ℕ). bit_of (pos n) k) (num-append a b))

-- a slice that lies inside
pub sliced : (a : Row) (offset y : ℕ) → offset + y ≤ length a → fit y (int_div_euclid (filled_number a false) (pos (2 ^ offset))) ≡ take y (drop offset a)
sliced a offset y inside =
    let z : ℤ = int_div_euclid (filled_number a false) (pos (2 ^ offset)) in
    let room : y ≤ length (drop offset a) = omega (arith, length-drop offset a) in
    let same : take y (drop offset a) ≡ fit y z =
    row_is (take y (drop offset a)) y z (length-take-le y (drop offset a) room)
    (λ k h. get_or-take y (drop offset a) k false h ∙ get_or-drop offset a k false ∙ filled-at a false (offset + k) ∙ sym (down-at (filled_number a false) offset k)) in
    sym same
