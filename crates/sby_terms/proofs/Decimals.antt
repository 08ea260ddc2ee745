-- Words of digits are the decimal texts of their numbers.
use Rattle.std.proofs.Common.{◌≡◌, ◌≢◌, ◌∙◌, ◌<◌, ◌≤◌, ◌+◌, ◌^◌, ℕ, zero, suc, Bool, true, false, cond, ◌&&◌, not, leb, eqb, List, [], ◌∷◌, Some, None, length, get_or, refl, sym, ap, subst, arith, true≢false}
use Rattle.std.specs.Fmt.{decimal}
use Rattle.std.specs.List.{list_all}
use Rattle.std.specs.Char.{digit_value}
use Rattle.std.specs.Str.Parse.{AllDigits, digits_value}
use Rattle.std.proofs.lemmas.Bool.{leb-true, le-leb}
use Rattle.std.proofs.lemmas.Bool.Decides.{nat_tests}
use Rattle.std.proofs.lemmas.Fmt.{decimal-digits_value, decimal_digit, decimal_is_IsNumeral, first_decimal}
use Rattle.std.proofs.lemmas.Str.{digit_value_digit}
use Rattle.std.proofs.lemmas.Str.Parse.{IsNumeralModel, digit_from_value}
use Rattle.sby_terms.specs.Number.{is_digit, is_number, number_upto}
use Rattle.sby_terms.proofs.Numbers.{both_true, digit_bounds}

digits_model : IsNumeralModel (AllDigits 10) (digits_value 10)
digits_model = record { to = λ ds h. h; from = λ ds h. h; same = λ ds h. refl }

are_digits : (ds : List ℕ) → list_all is_digit ds ≡ true → AllDigits 10 ds
are_digits [] h = tt
are_digits (c ∷ cs) h =
    let w = both_true (is_digit c) (list_all is_digit cs) h in
    let k = digit_bounds c w.0 in
    let v : digit_value c + 48 ≡ c = digit_value_digit c k in
    (omega (arith, v, k.1), are_digits cs w.1)

is_digit_of : (c : ℕ) → 48 ≤ c → c ≤ 57 → is_digit c ≡ true
is_digit_of c low high = let a : leb 48 c ≡ true = le-leb 48 c low in let b : leb c 57 ≡ true = le-leb c 57 high in rw (a, b) refl

all_digits : (ds : List ℕ) → AllDigits 10 ds → list_all is_digit ds ≡ true
all_digits [] h = refl
all_digits (c ∷ cs) h = let k = digit_from_value c h.0 in let d = is_digit_of c k.0 k.1 in rw (d, all_digits cs h.1) refl

some_is : (P : Bool) (v n : ℕ) → cond P (Some v) None ≡ Some n → (P ≡ true) × (v ≡ n)
some_is true v n e = (refl, cc)
some_is false v n e = cc

abbrev IsWritten : ℕ → List ℕ → ℕ → Type 0
IsWritten most word n = (word ≡ decimal n) × (1 ≤ n) × (n ≤ most)

numeral_above : (n : ℕ) (c : ℕ) (cs : List ℕ) → n < 2 ^ 64 → (c ∷ cs) ≡ decimal n → c ≢ 48 → 1 ≤ n
numeral_above zero c cs small e first = absurd (first (ap (λ ds. get_or ds 0 0) (e ∙ decimal_digit 0 (omega arith))))
numeral_above (suc n) c cs small e first = omega arith

pub written : (most n : ℕ) (word : List ℕ) → most ≤ 18446744073709551615 → number_upto most word ≡ Some n → IsWritten most word n
written most n [] limit e = cc
written most n (c ∷ cs) limit e =
    let w = some_is (is_number (c ∷ cs) && leb (digits_value 10 (c ∷ cs)) most) (digits_value 10 (c ∷ cs)) n e in
    let both = both_true (is_number (c ∷ cs)) (leb (digits_value 10 (c ∷ cs)) most) w.0 in
    let parts = both_true (list_all is_digit (c ∷ cs)) (not (eqb c 48)) both.0 in
    let first : c ≢ 48 = λ z. true≢false (sym parts.1 ∙ (rw z refl)) in
    let most_is : digits_value 10 (c ∷ cs) ≤ most = leb-true _ _ both.1 in
    let small : digits_value 10 (c ∷ cs) < 2 ^ 64 = omega (arith, most_is, limit) in
    let text : decimal (digits_value 10 (c ∷ cs)) ≡ c ∷ cs =
    decimal-digits_value digits_model (c ∷ cs) (are_digits (c ∷ cs) parts.0) (omega arith) (λ z. absurd (first z)) small in
    let same : (c ∷ cs) ≡ decimal n = sym text ∙ ap decimal w.1 in
    (same, numeral_above n c cs (subst (λ k. k < 2 ^ 64) w.1 small) same first, subst (λ k. k ≤ most) w.1 most_is)

number_is : (most n : ℕ) (word : List ℕ) → AllDigits 10 word → 0 < length word → get_or word 0 0 ≢ 48 → digits_value 10 word ≡ n → n ≤ most
    → number_upto most word ≡ Some n
number_is most n [] all some first e m = absurd (omega (arith, some))
number_is most n (c ∷ cs) all some first e m =
    let d : list_all is_digit (c ∷ cs) ≡ true = all_digits (c ∷ cs) all in
    let z : eqb c 48 ≡ false = grind (arith, nat_tests) in
    let l : leb (digits_value 10 (c ∷ cs)) most ≡ true = le-leb _ _ (omega (arith, e, m)) in
    rw (d, z, l) (ap Some e)

pub reads : (most n : ℕ) (word : List ℕ) → most ≤ 18446744073709551615 → IsWritten most word n → number_upto most word ≡ Some n
reads most n word limit is =
    let small : n < 2 ^ 64 = omega (arith, is.2, limit) in
    let numeral = decimal_is_IsNumeral n small in
    let first : 48 < get_or (decimal n) 0 0 = first_decimal n (omega (arith, is.1)) small in
    subst (λ w. number_upto most w ≡ Some n) (sym is.0) (number_is most n (decimal n) numeral.0.1 numeral.0.0 (λ z. omega (arith, first, z)) numeral.1 is.2)
