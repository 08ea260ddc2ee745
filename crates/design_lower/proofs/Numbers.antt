-- Digits of 0 and 1 are those of their number.
use Rattle.std.proofs.Common.{◌≡◌, ℕ, suc, ◌+◌, ◌*◌, ◌/◌, ◌%◌, ◌^◌, ◌<◌, ◌≤◌, ◌==◌, Bool, true, false, List, [], ◌∷◌, length, refl, ap, ◌∙◌, arith}
use Rattle.std.proofs.Math.Nat.{pow-suc}
use Rattle.design_core.specs.Digits.{digit_number, digits_number, is_number, number_digits}
use Rattle.design_core.specs.declared.digit.Digit.{Digit}
use Rattle.design_core.specs.declared.digit.Digit.TheVariants.{Const, Free, Marker}

digit-most : (x : Digit) → digit_number x ≤ 1
digit-most (Const true) = omega arith
digit-most (Const false) = omega arith
digit-most (Free n) = omega arith
digit-most Marker = omega arith

double : (n : ℕ) → 2 ^ suc n ≡ 2 * 2 ^ n
double n = let e = pow-suc 2 n in omega (arith, e)

pub number-below : (xs : List Digit) → digits_number xs < 2 ^ length xs
number-below [] = omega arith
number-below (x ∷ xs) =
    let rest = number-below xs in
    let most = digit-most x in
    omega (arith, rest, most, double (length xs))

step : (b : Bool) (bit v n : ℕ) (rest : List Digit) → (bit == 1) ≡ b → bit ≤ 1 → number_digits n v ≡ rest → number_digits (suc n) (bit + 2 * v) ≡ Const b ∷ rest
step b bit v n rest is le e =
    let low : (bit + 2 * v) % 2 ≡ bit = omega (arith, le) in
    let high : (bit + 2 * v) / 2 ≡ v = omega (arith, le) in
    ap (λ (m : ℕ). Const (m == 1) ∷ number_digits n ((bit + 2 * v) / 2)) low
    ∙ (ap (λ (m : ℕ). Const (bit == 1) ∷ number_digits n m) high
    ∙ (ap (λ (y : Bool). Const y ∷ number_digits n v) is ∙ ap (λ (l : List Digit). Const b ∷ l) e))

pub number-same : (xs : List Digit) → is_number xs ≡ true → number_digits (length xs) (digits_number xs) ≡ xs
number-same [] h = refl
number-same (Const true ∷ xs) h = step true 1 (digits_number xs) (length xs) xs refl (omega arith) (number-same xs h)
number-same (Const false ∷ xs) h = step false 0 (digits_number xs) (length xs) xs refl (omega arith) (number-same xs h)
number-same (Free n ∷ xs) h = absurd cc
number-same (Marker ∷ xs) h = absurd cc
