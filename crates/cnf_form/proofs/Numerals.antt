-- Words that are numbers or literals.
use Rattle.std.proofs.Common.{◌≡◌, ◌≢◌, ℕ, ◌-◌, ◌<◌, ◌≤◌, ◌^◌, Bool, true, false, not, cond, ◌&&◌, leb, eqb, List, [], ◌∷◌, length, take, drop, get_or, Some, None, refl, ap, sym, ◌∙◌, subst, inl, inr, arith}
use Rattle.std.specs.List.{list_all}
use Rattle.std.specs.Char.{digit_value}
use Rattle.std.specs.Str.Parse.{IsNumeral, AllDigits, digits_value}
use Rattle.std.proofs.lemmas.Bool.{le-leb, leb-true, eqb-true, eq-eqb, not-true, cases_Bool, both_ways}
use Rattle.std.proofs.lemmas.List.{take_all}
use Rattle.std.proofs.lemmas.List.Folds.{list_all_at}
use Rattle.std.proofs.lemmas.Int.Digits.{digits_value_more}
use Rattle.std.proofs.lemmas.Str.{digit_value_digit}
use Rattle.std.proofs.lemmas.Fmt.{decimal-digits_value}
use Rattle.std.specs.Prelude.{decimal}
use Rattle.std.proofs.lemmas.Str.Parse.{IsNumeralModel, digits_value-take-le, digit_from_value}
use Rattle.sby_terms.specs.Number.{is_digit, is_number, number_upto}
use Rattle.cnf_form.specs.Cnf.{LitOf, LitWithin}
use Rattle.cnf_form.specs.Dimacs.{IsNumber, IsLiteral}
use Rattle.cnf_form.proofs.Writing.{decimal_is_IsNumber}
use Rattle.cnf_form.proofs.Reading.{minus_no_digits}

both_true : (p q : Bool) → (p && q) ≡ true → (p ≡ true) × (q ≡ true)
both_true true true h = (refl, refl)
both_true true false h = cc
both_true false q h = cc

digit_low : (b : ℕ) → is_digit b ≡ true → digit_value b < 10
digit_low b h =
    let w = both_true (leb 48 b) (leb b 57) h in
    let l : 48 ≤ b = leb-true 48 b w.0 in
    let u : b ≤ 57 = leb-true b 57 w.1 in
    let e = digit_value_digit b (l, u) in
    omega (arith, e)

digit_high : (b : ℕ) → digit_value b < 10 → is_digit b ≡ true
digit_high b h =
    let k = digit_from_value b h in
    let l : leb 48 b ≡ true = le-leb 48 b k.0 in
    let u : leb b 57 ≡ true = le-leb b 57 k.1 in
    rw (l, u) refl

pub digits_from : (w : List ℕ) → list_all is_digit w ≡ true → AllDigits 10 w
digits_from [] h = tt
digits_from (b ∷ bs) h = let w = both_true (is_digit b) (list_all is_digit bs) h in (digit_low b w.0, digits_from bs w.1)

pub digits_back : (w : List ℕ) → AllDigits 10 w → list_all is_digit w ≡ true
digits_back [] h = refl
digits_back (b ∷ bs) h = rw (digit_high b h.0, digits_back bs h.1) refl

-- a word that some byte makes no number
pub no_digits_at : (w : List ℕ) (i : ℕ) → i < length w → is_digit (get_or w i 0) ≡ false → AllDigits 10 w → ⊥
no_digits_at w i h e a = both_ways _ (list_all_at is_digit w i 0 h e) (digits_back w a)

not_zero : (w : List ℕ) (n : ℕ) → IsNumeral 10 w → get_or w 0 0 ≢ 48 → digits_value 10 w ≡ n → 0 < n
not_zero [] n d z v = absurd (omega (arith, d.0))
not_zero (b ∷ bs) n d z v =
    let a = d.1 in
    let w = digit_from_value b a.0 in
    let k = digits_value-take-le 10 (b ∷ bs) 1 (omega arith) in
    let m = digits_value_more 10 (b ∷ bs) 0 (omega arith) in
    let c = digit_value_digit b w in
    omega (arith, k, m, c, v, z, w.0, w.1)

-- what number_upto answers
some_is : (P : Bool) (v n : ℕ) → cond P (Some v) None ≡ Some n → (P ≡ true) × (v ≡ n)
some_is true v n e = (refl, cc)
some_is false v n e = cc

not_48 : (b : ℕ) → not (eqb b 48) ≡ true → b ≢ 48
not_48 b h e = both_ways _ (not-true _ h) (eq-eqb b 48 e)

pub upto_some : (most n : ℕ) (w : List ℕ) → most ≤ 2 ^ 27 → number_upto most w ≡ Some n → IsNumber w n × (0 < n) × (n ≤ most)
upto_some most n [] small h = cc
upto_some most n (b ∷ bs) small h =
    let w : List ℕ = b ∷ bs in
    let s = some_is (is_number w && leb (digits_value 10 w) most) (digits_value 10 w) n h in
    let k = both_true (is_number w) (leb (digits_value 10 w) most) s.0 in
    let d = both_true (list_all is_digit w) (not (eqb b 48)) k.0 in
    let z : b ≢ 48 = not_48 b d.1 in
    let a : IsNumeral 10 w = (omega arith, digits_from w d.0) in
    (record { digits = a; value = s.1; shortest = inr z }, not_zero w n a z s.1, let l = leb-true _ _ k.1 in omega (arith, l, s.1))

number_reads : (most n : ℕ) (w : List ℕ) → IsNumber w n → 0 < n → n ≤ most → number_upto most w ≡ Some n
number_reads most n [] a p l = let d = a.digits in absurd (omega (arith, d.0))
number_reads most n (b ∷ bs) a p l =
    let d : IsNumeral 10 (b ∷ bs) = a.digits in
    let all : list_all is_digit (b ∷ bs) ≡ true = digits_back (b ∷ bs) d.1 in
    let f : eqb b 48 ≡ false = elim a.shortest [
      | inl e ↦ absurd (let z : digits_value 10 (b ∷ bs) ≡ 0 = ap (digits_value 10) e in let v = a.value in omega (arith, z, v, p))
      | inr z ↦ elim (cases_Bool (eqb b 48)) [ inl t ↦ absurd (z (eqb-true b 48 t)) | inr f ↦ f ]
    ] in
    let v = a.value in
    let s : leb (digits_value 10 (b ∷ bs)) most ≡ true = le-leb _ _ (omega (arith, v)) in
    rw (all, f, s) (ap Some v)

pub upto_none : (most n : ℕ) (w : List ℕ) → number_upto most w ≡ None → IsNumber w n → 0 < n → n ≤ most → ⊥
upto_none most n w h a p l = let s = number_reads most n w a p l in cc

-- the variables of a header, where the word does not begin with 0
pub vars_none : (most n : ℕ) (w : List ℕ) → get_or w 0 0 ≢ 48 → number_upto most w ≡ None → IsNumber w n → n ≤ most → ⊥
vars_none most n w z h a l = upto_none most n w h a (elim a.shortest [
  | inl e ↦ absurd (z (ap (λ (xs : List ℕ). get_or xs 0 0) e))
  | inr d ↦ not_zero w n a.digits d a.value
]) l

tail_is : (b : ℕ) (bs : List ℕ) → take (length (b ∷ bs) - 1) (drop 1 (b ∷ bs)) ≡ bs
tail_is b bs = take_all (length (b ∷ bs) - 1) bs (omega arith)

module _ (vars : ℕ) (small : vars ≤ 2 ^ 27) where
  pub minus_some : (w : List ℕ) (n : ℕ) → get_or w 0 0 ≡ 45 → number_upto vars (take (length w - 1) (drop 1 w)) ≡ Some n → IsNumber (drop 1 w) n × (0 < n) × (n ≤ vars) × (w ≡ 45 ∷ drop 1 w)
  minus_some [] n z h = absurd (omega (arith, z))
  minus_some (b ∷ bs) n z h = let s = upto_some vars n bs small (ap (number_upto vars) (sym (tail_is b bs)) ∙ h) in (s.0, s.1, s.2, ap (λ x. x ∷ bs) z)

  pub plain_some : (w : List ℕ) (n : ℕ) → number_upto vars w ≡ Some n → IsNumber w n × (0 < n) × (n ≤ vars)
  plain_some w n h = upto_some vars n w small h

  minus_cases : (b : ℕ) (bs d : List ℕ) (s : Bool) (n : ℕ) → b ≡ 45 → number_upto vars bs ≡ None → IsNumber d n → 0 < n → n ≤ vars → b ∷ bs ≡ cond s (45 ∷ d) d → ⊥
  minus_cases b bs d true n z h a p l e = let t : bs ≡ d = cc in upto_none vars n d (ap (number_upto vars) (sym t) ∙ h) a p l
  minus_cases b bs d false n z h a p l e = minus_no_digits d bs n a (sym e ∙ ap (λ x. x ∷ bs) z)

  pub minus_none : (w : List ℕ) → get_or w 0 0 ≡ 45 → number_upto vars (take (length w - 1) (drop 1 w)) ≡ None → (l : LitOf) → IsLiteral w l → LitWithin vars l → ⊥
  minus_none [] z h l a r = absurd (omega (arith, z))
  minus_none (b ∷ bs) z h l a r = minus_cases b bs a.0 l.negated l.var z (ap (number_upto vars) (sym (tail_is b bs)) ∙ h) a.1 a.2 r.1 a.3

  plain_cases : (w d : List ℕ) (s : Bool) (n : ℕ) → get_or w 0 0 ≢ 45 → number_upto vars w ≡ None → IsNumber d n → 0 < n → n ≤ vars → w ≡ cond s (45 ∷ d) d → ⊥
  plain_cases w d true n z h a p l e = z (ap (λ (xs : List ℕ). get_or xs 0 0) e)
  plain_cases w d false n z h a p l e = upto_none vars n d (ap (number_upto vars) (sym e) ∙ h) a p l

  pub plain_none : (w : List ℕ) → get_or w 0 0 ≢ 45 → number_upto vars w ≡ None → (l : LitOf) → IsLiteral w l → LitWithin vars l → ⊥
  plain_none w z h l a r = plain_cases w a.0 l.negated l.var z h a.1 a.2 r.1 a.3

digits_model : IsNumeralModel (AllDigits 10) (digits_value 10)
digits_model = record { to = λ ds h. h; from = λ ds h. h; same = λ ds h. refl }

-- a number's word is its decimal text
pub number_word : (w : List ℕ) (n : ℕ) → n < 2 ^ 64 → IsNumber w n → w ≡ decimal n
number_word w n small a =
    let d = a.digits in
    let v : digits_value 10 w ≡ n = a.value in
    let e = decimal-digits_value digits_model w d.1 d.0 (λ z. elim a.shortest [ inl s ↦ ap length s | inr k ↦ absurd (k z) ]) (omega (arith, v)) in
    sym e ∙ ap decimal v

pub word_number : (w : List ℕ) (n : ℕ) → n < 2 ^ 64 → w ≡ decimal n → IsNumber w n
word_number w n small e = subst (λ z. IsNumber z n) (sym e) (decimal_is_IsNumber n small)
