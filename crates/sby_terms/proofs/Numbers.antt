-- Numbers as digits write them.
use Rattle.std.proofs.Common.{◌≡◌, ℕ, ◌+◌, ◌*◌, ◌-◌, ◌<◌, ◌≤◌, Bool, true, false, cond, ◌&&◌, leb, eqb, List, [], ◌∷◌, length, take, get_or, Some, None, refl, ap, sym, ◌∙◌, arith}
use Rattle.std.proofs.lemmas.Bool.{le-leb, lt-leb, leb-true, eqb-true}
use Rattle.std.proofs.lemmas.Bool.Decides.{nat_tests}
use Rattle.std.specs.Prelude.{◌≢◌}
use Rattle.std.specs.List.{list_all}
use Rattle.std.specs.Char.{digit_value}
use Rattle.std.specs.Str.Parse.{digits_value}
use Rattle.std.proofs.lemmas.List.Folds.{list_all_at, list_all_more}
use Rattle.std.proofs.lemmas.List.{take_all}
use Rattle.std.proofs.lemmas.Int.Digits.{digits_value_more}
use Rattle.std.proofs.lemmas.Str.{digit_value_digit}
use Rattle.std.proofs.lemmas.Str.Parse.{digits_value-take-le}
use Rattle.sby_terms.specs.Number.{is_digit, is_number, number_upto}

pub both_true : (p q : Bool) → (p && q) ≡ true → (p ≡ true) × (q ≡ true)
both_true true true h = (refl, refl)
both_true true false h = cc
both_true false q h = cc

pub digit_bounds : (b : ℕ) → is_digit b ≡ true → (48 ≤ b) × (b ≤ 57)
digit_bounds b h = let w = both_true (leb 48 b) (leb b 57) h in (leb-true 48 b w.0, leb-true b 57 w.1)

-- the number of the digits so far, and one more
pub value_more : (ds : List ℕ) (i value : ℕ) → i < length ds → is_digit (get_or ds i 0) ≡ true → value ≡ digits_value 10 (take i ds)
    → value * 10 + (get_or ds i 0 - 48) ≡ digits_value 10 (take (i + 1) ds)
value_more ds i value h e v =
    let w = digit_bounds (get_or ds i 0) e in
    let d : digit_value (get_or ds i 0) + 48 ≡ get_or ds i 0 = digit_value_digit (get_or ds i 0) w in
    let m = digits_value_more 10 ds i h in
    omega (arith, m, d, v)

pub digits_more : (ds : List ℕ) (i : ℕ) → i < length ds → is_digit (get_or ds i 0) ≡ true → list_all is_digit (take i ds) ≡ true → list_all is_digit (take (i + 1) ds) ≡ true
digits_more ds i h e a = list_all_more is_digit ds i 0 h ∙ rw (a, e) refl

none_at : (P : Bool) (v : ℕ) → P ≡ false → None ≡ cond P (Some v) None
none_at P v e = rw e refl

pub false_right : (b : Bool) → (b && false) ≡ false
false_right true = refl
false_right false = refl

pub none_empty : (most : ℕ) (ds : List ℕ) → eqb (length ds) 0 ≡ true → None ≡ number_upto most ds
none_empty most [] e = refl
none_empty most (b ∷ bs) e = absurd (let z = eqb-true (length (b ∷ bs)) 0 e in omega (arith, z))

-- a leading zero, another byte, or a number that is too large
pub none_zero : (most : ℕ) (ds : List ℕ) → get_or ds 0 0 ≡ 48 → None ≡ number_upto most ds
none_zero most [] e = refl
none_zero most (b ∷ bs) e = none_at _ _ (rw e (rw (false_right (list_all is_digit (48 ∷ bs))) refl))

pub none_other : (most : ℕ) (ds : List ℕ) (i : ℕ) → i < length ds → is_digit (get_or ds i 0) ≡ false → None ≡ number_upto most ds
none_other most [] i h e = refl
none_other most (b ∷ bs) i h e = let a : list_all is_digit (b ∷ bs) ≡ false = list_all_at is_digit (b ∷ bs) i 0 h e in none_at _ _ (rw a refl)

pub none_large : (most : ℕ) (ds : List ℕ) (i value : ℕ) → most < value → value ≡ digits_value 10 (take (i + 1) ds) → None ≡ number_upto most ds
none_large most ds i value h e =
    let k = digits_value-take-le 10 ds (i + 1) (omega arith) in
    let l : leb (digits_value 10 ds) most ≡ false = lt-leb (digits_value 10 ds) most (omega (arith, k, e)) in
    none_at _ _ (rw l (false_right (is_number ds)))

same_digits : (ds : List ℕ) (i value : ℕ) → length ds ≤ i → value ≡ digits_value 10 (take i ds) → value ≡ digits_value 10 ds
same_digits ds i value h e = e ∙ ap (digits_value 10) (take_all i ds h)

-- all digits were read
pub some_number : (most : ℕ) (ds : List ℕ) (i value : ℕ) → eqb (length ds) 0 ≡ false → get_or ds 0 0 ≢ 48 → length ds ≤ i → value ≡ digits_value 10 (take i ds)
    → list_all is_digit (take i ds) ≡ true → value ≤ most → Some value ≡ number_upto most ds
some_number most [] i value h z n e a l = cc
some_number most (b ∷ bs) i value h z n e a l =
    let v = same_digits (b ∷ bs) i value n e in
    let d : list_all is_digit (b ∷ bs) ≡ true = sym (ap (list_all is_digit) (take_all i (b ∷ bs) n)) ∙ a in
    let f : eqb b 48 ≡ false = grind (arith, nat_tests) in
    let s : leb (digits_value 10 (b ∷ bs)) most ≡ true = le-leb _ _ (omega (arith, v)) in
    rw (d, f, s) (ap Some v)
