-- The number of digits, from the highest down.
use Rattle.std.proofs.Common.{◌≡◌, ℕ, zero, suc, ◌+◌, ◌-◌, ◌*◌, ◌/◌, ◌%◌, ◌^◌, ◌<◌, ◌≤◌, Bool, true, false, eqb, ◌&&◌, List, [], ◌∷◌, ◌++◌, replicate, map, length, get_or, drop, Some, refl, ap, ◌∙◌, arith}
use Rattle.std.specs.Prelude.{slice_get}
use Rattle.std.proofs.lemmas.List.{length-map}
use Rattle.std.proofs.Math.Nat.{mod-eq_of_lt}
use Rattle.sby_bits.specs.Rows.{Row, num, low_bits}
use Rattle.sby_bits.proofs.Numbers.{length-low_bits, low_bits-at}
use Rattle.sby_bits.proofs.RowLaws.{num-low_bits}
use Rattle.std.proofs.Math.Seq.{drop-append_seam}
use Rattle.std.specs.List.{list_all}
use Rattle.design_core.specs.Digits.{above_digits, digit_number, digits_number, is_binary, is_number, is_value, number_digits}
use Rattle.design_core.specs.declared.digit.Digit.{Digit}
use Rattle.design_core.specs.declared.digit.Digit.TheVariants.{Const, Marker}
use Rattle.design_core.specs.declared.digit.Extension.{Extension}
use Rattle.design_core.specs.declared.digit.Extension.TheVariants.{Zeros, Markers}

pub digits_number-drop-le : (i : ℕ) (xs : List Digit) → digits_number (drop i xs) ≤ digits_number xs
digits_number-drop-le zero xs = omega arith
digits_number-drop-le (suc i) [] = omega arith
digits_number-drop-le (suc i) (x ∷ xs) = let le : digits_number (drop i xs) ≤ digits_number xs = digits_number-drop-le i xs in omega arith

pub digits_number-drop : (i : ℕ) (xs : List Digit) (d : Digit) → i < length xs
    → digits_number (drop i xs) ≡ digit_number (get_or xs i d) + 2 * digits_number (drop (i + 1) xs)
digits_number-drop i [] d lt = absurd (omega arith)
digits_number-drop zero (x ∷ xs) d lt = refl
digits_number-drop (suc i) (x ∷ xs) d lt =
    let e : (suc i) + 1 ≡ suc (i + 1) = omega arith in
    rw e (digits_number-drop i xs d (omega arith))

-- where one digit more doesn't fit, the number is past 64 bits
pub number-past : (xs : List Digit) (d : Digit) (p digit number : ℕ) → 1 ≤ p → p ≤ length xs → digit ≡ digit_number (get_or xs (p - 1) d)
    → number ≡ digits_number (drop p xs) → 2 ^ 64 ≤ 2 * number + digit → 2 ^ 64 ≤ digits_number xs
number-past xs d p digit number some within is_digit is_number past =
    let at : p - 1 < length xs = omega arith in
    let next : (p - 1) + 1 ≡ p = omega arith in
    let same : digits_number (drop ((p - 1) + 1) xs) ≡ digits_number (drop p xs) = ap (λ (k : ℕ). digits_number (drop k xs)) next in
    omega (arith, digits_number-drop-le (p - 1) xs, digits_number-drop (p - 1) xs d at, same)

-- a number as digits is that number
pub number-is_number : (w v : ℕ) → is_number (number_digits w v) ≡ true
number-is_number zero v = refl
number-is_number (suc w) v = number-is_number w (v / 2)

binary-num : (r : Row) → digits_number (map (λ (b : Bool). Const b) r) ≡ num r
binary-num [] = refl
binary-num (true ∷ r) = let rest : digits_number (map (λ (b : Bool). Const b) r) ≡ num r = binary-num r in ap (λ (n : ℕ). 1 + 2 * n) rest
binary-num (false ∷ r) = let rest : digits_number (map (λ (b : Bool). Const b) r) ≡ num r = binary-num r in ap (λ (n : ℕ). 0 + 2 * n) rest

pub number-number : (w v : ℕ) → v < 2 ^ w → digits_number (number_digits w v) ≡ v
number-number w v h = binary-num (low_bits w v) ∙ num-low_bits w v ∙ mod-eq_of_lt h

pub number-length : (w v : ℕ) → length (number_digits w v) ≡ w
number-length w v = length-map (low_bits w v) (λ (b : Bool). Const b) ∙ length-low_bits w v

map-at : (r : Row) (i : ℕ) → i < length r → slice_get (map (λ (b : Bool). Const b) r) i ≡ Some (Const (get_or r i false))
map-at [] i h = absurd (omega arith)
map-at (b ∷ r) zero h = refl
map-at (b ∷ r) (suc i) h = map-at r i (omega arith)

pub number-digit : (w v i : ℕ) → i < w → slice_get (number_digits w v) i ≡ Some (Const (eqb (v / 2 ^ i % 2) 1))
number-digit w v i h =
    map-at (low_bits w v) i (omega (arith, h, length-low_bits w v)) ∙ ap (λ (b : Bool). Some (Const b)) (low_bits-at w v i h)

-- ---- digits with others above them

zeros-number : (n : ℕ) → digits_number (replicate n (Const false)) ≡ 0
zeros-number zero = refl
zeros-number (suc n) = let rest : digits_number (replicate n (Const false)) ≡ 0 = zeros-number n in omega arith

pub zeros-above : (xs : List Digit) (n : ℕ) → digits_number (xs ++ replicate n (Const false)) ≡ digits_number xs
zeros-above [] n = zeros-number n
zeros-above (x ∷ xs) n = ap (λ (k : ℕ). digit_number x + 2 * k) (zeros-above xs n)

pub zeros-binary : (n : ℕ) → is_number (replicate n (Const false)) ≡ true
zeros-binary zero = refl
zeros-binary (suc n) = zeros-binary n

pub binary-above : (xs : List Digit) (n : ℕ) → is_number (xs ++ replicate n (Const false)) ≡ is_number xs
binary-above [] n = zeros-binary n
binary-above (x ∷ xs) n = ap (λ (b : Bool). is_binary x && b) (binary-above xs n)

-- digits that have no value

markers-number : (n : ℕ) → digits_number (replicate n Marker) ≡ 0
markers-number zero = refl
markers-number (suc n) = let rest : digits_number (replicate n Marker) ≡ 0 = markers-number n in omega arith

pub above-number : (above : Extension) → digits_number (above_digits above) ≡ 0
above-number (Zeros n) = zeros-number n
above-number (Markers n) = markers-number n

-- nothing above the digits of a number counts, nor above those that are kept one by one
pub number-above : (w v : ℕ) → digits_number (drop w (number_digits w v)) ≡ 0
number-above zero v = refl
number-above (suc w) v = number-above w (v / 2)

pub kept-above : (xs : List Digit) (above : Extension) → digits_number (drop (length xs) (xs ++ above_digits above)) ≡ 0
kept-above xs above = ap digits_number (drop-append_seam xs (above_digits above)) ∙ above-number above

-- and from a place on where nothing counts nothing does
pub number-later : (xs : List Digit) (i j : ℕ) → i ≤ j → digits_number (drop i xs) ≡ 0 → digits_number (drop j xs) ≡ 0
number-later xs zero j le none = let few : digits_number (drop j xs) ≤ digits_number xs = digits_number-drop-le j xs in omega (arith, few, none)
number-later xs (suc i) zero le none = absurd (omega (arith, le))
number-later [] (suc i) (suc j) le none = refl
number-later (x ∷ xs) (suc i) (suc j) le none = number-later xs i j (omega (arith, le)) none

-- a number's digits have values
pub number-are_values : (w v : ℕ) → list_all is_value (number_digits w v) ≡ true
number-are_values zero v = refl
number-are_values (suc w) v = number-are_values w (v / 2)

pub zeros-values : (n : ℕ) → list_all is_value (replicate n (Const false)) ≡ true
zeros-values zero = refl
zeros-values (suc n) = zeros-values n
