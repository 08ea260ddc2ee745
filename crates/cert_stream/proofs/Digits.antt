-- Numbers and literals as digits write them.
use Rattle.std.proofs.Common.{◌≡◌, ◌⊎◌, ℕ, ◌+◌, ◌*◌, ◌-◌, ◌≤◌, Bool, true, false, cond, not, ◌&&◌, eqb, leb, List, [], ◌∷◌, ◌++◌, length, take, Option, Some, None, refl, ap, sym, ◌∙◌, inl, inr, arith, subst, append_assoc}
use Rattle.std.specs.Prelude.{◌≢◌}
use Rattle.std.specs.List.{list_all}
use Rattle.std.specs.Char.{digit_value}
use Rattle.std.specs.Str.Parse.{digits_value}
use Rattle.std.proofs.lemmas.Bool.{cases_Bool, eqb-true, le-leb, leb-true}
use Rattle.std.proofs.lemmas.Bool.Decides.{nat_tests}
use Rattle.std.proofs.lemmas.List.Folds.{list_all-append}
use Rattle.std.proofs.lemmas.Int.Digits.{digits_value_push}
use Rattle.std.proofs.lemmas.Str.{digit_value_digit}
use Rattle.std.proofs.lemmas.Str.Parse.{digits_value-take-le}
use Rattle.std.proofs.Math.Seq.{take-append_seam}
use Rattle.cnf_form.specs.Cnf.{LitOf}
use Rattle.cert_stream.specs.Text.{is_digit, is_number, literal_of}
use Rattle.cert_stream.specs.Machine.{goes_on, literal, with_digit}

abbrev pub value : List ℕ → ℕ
value ds = digits_value 10 ds

pub both_true : (p q : Bool) → (p && q) ≡ true → (p ≡ true) × (q ≡ true)
both_true true true h = (refl, refl)
both_true true false h = cc
both_true false q h = cc

both : (p q : Bool) → p ≡ true → q ≡ true → (p && q) ≡ true
both p q e f = rw (e, f) refl

pub digit_bounds : (b : ℕ) → is_digit b ≡ true → (48 ≤ b) × (b ≤ 57)
digit_bounds b h = let w = both_true (leb 48 b) (leb b 57) h in (leb-true 48 b w.0, leb-true b 57 w.1)

not_true : (b : Bool) → not b ≡ true → b ≡ false
not_true true h = cc
not_true false h = refl

-- digits, of which there is none or the first is not 0
abbrev pub IsFront : List ℕ → Type 0
IsFront ds = (ds ≡ []) ⊎ (is_number ds ≡ true)

-- one digit more
pub value_push : (ds : List ℕ) (b : ℕ) → is_digit b ≡ true → value (ds ++ b ∷ []) ≡ with_digit (value ds) b
value_push ds b e =
    let d : digit_value b + 48 ≡ b = digit_value_digit b (digit_bounds b e) in
    let p = digits_value_push 10 ds b in
    omega (arith, p, d)

pub number_push : (ds : List ℕ) (b : ℕ) → IsFront ds → is_digit b ≡ true → 1 ≤ with_digit (value ds) b → is_number (ds ++ b ∷ []) ≡ true
number_push [] b h e n =
    let f : eqb b 48 ≡ false = (let m : 1 ≤ b - 48 = omega (arith, n) in grind (arith, nat_tests, m)) in
    rw (e, f) refl
number_push (c ∷ cs) b (inl h) e n = cc
number_push (c ∷ cs) b (inr h) e n =
    let w = both_true (list_all is_digit (c ∷ cs)) (not (eqb c 48)) h in
    let a : list_all is_digit (c ∷ cs ++ b ∷ []) ≡ true = list_all-append is_digit (c ∷ cs) (b ∷ []) ∙ both (list_all is_digit (c ∷ cs)) (list_all is_digit (b ∷ [])) w.0 (rw e refl) in
    both (list_all is_digit (c ∷ cs ++ b ∷ [])) (not (eqb c 48)) a w.1

-- and of more digits the first ones
pub number_front : (ds : List ℕ) (b : ℕ) (more : List ℕ) → is_number (ds ++ b ∷ more) ≡ true → (is_digit b ≡ true) × (is_number (ds ++ b ∷ []) ≡ true)
number_front [] b more h =
    let w = both_true (list_all is_digit (b ∷ more)) (not (eqb b 48)) h in
    let d = (both_true (is_digit b) (list_all is_digit more) w.0).0 in
    (d, both (list_all is_digit (b ∷ [])) (not (eqb b 48)) (rw d refl) w.1)
number_front (c ∷ cs) b more h =
    let w = both_true (list_all is_digit (c ∷ cs ++ b ∷ more)) (not (eqb c 48)) h in
    let a : (list_all is_digit (c ∷ cs) && list_all is_digit (b ∷ more)) ≡ true = sym (list_all-append is_digit (c ∷ cs) (b ∷ more)) ∙ w.0 in
    let v = both_true (list_all is_digit (c ∷ cs)) (list_all is_digit (b ∷ more)) a in
    let d = (both_true (is_digit b) (list_all is_digit more) v.1).0 in
    let k : list_all is_digit (c ∷ cs ++ b ∷ []) ≡ true = list_all-append is_digit (c ∷ cs) (b ∷ []) ∙ both (list_all is_digit (c ∷ cs)) (list_all is_digit (b ∷ [])) v.0 (rw d refl) in
    (d, both (list_all is_digit (c ∷ cs ++ b ∷ [])) (not (eqb c 48)) k w.1)

pub value_front : (ds : List ℕ) (b : ℕ) (more : List ℕ) → value (ds ++ b ∷ []) ≤ value (ds ++ b ∷ more)
value_front ds b more =
    let e : (ds ++ b ∷ []) ++ more ≡ ds ++ b ∷ more = append_assoc ds (b ∷ []) more in
    let k : take (length (ds ++ b ∷ [])) (ds ++ b ∷ more) ≡ ds ++ b ∷ [] = ap (take (length (ds ++ b ∷ []))) (sym e) ∙ take-append_seam (ds ++ b ∷ []) more in
    subst (λ z. value z ≤ value (ds ++ b ∷ more)) k (digits_value-take-le 10 (ds ++ b ∷ more) (length (ds ++ b ∷ [])) (omega arith))

pub number_above : (ds : List ℕ) → is_number ds ≡ true → 1 ≤ value ds
number_above [] h = cc
number_above (b ∷ bs) h =
    let w = both_true (list_all is_digit (b ∷ bs)) (not (eqb b 48)) h in
    let d = digit_bounds b (both_true (is_digit b) (list_all is_digit bs) w.0).0 in
    let z : eqb b 48 ≡ false = not_true (eqb b 48) w.1 in
    let n : b ≢ 48 = λ e. (let t : eqb 48 48 ≡ false = subst (λ x. eqb x 48 ≡ false) e z in cc) in
    let c = digit_value_digit b d in
    let p : value (b ∷ []) ≡ 0 * 10 + digit_value b = digits_value_push 10 [] b in
    let f = value_front [] b bs in
    omega (arith, p, c, n, f, d)

-- a sign and digits
abbrev pub signed : Bool → List ℕ → List ℕ
signed true ds = 45 ∷ ds
signed false ds = ds

abbrev pub of_digits : ℕ → Bool → List ℕ → Option LitOf
of_digits vars negated ds = cond (is_number ds && leb (value ds) vars) (Some (literal (value ds) negated)) None

pub digit_no_minus : (b : ℕ) → is_digit b ≡ true → eqb b 45 ≡ false
digit_no_minus b e = let d = digit_bounds b e in grind (arith, nat_tests, d)

pub literal_plain : (vars c : ℕ) (cs : List ℕ) → eqb c 45 ≡ false → literal_of vars (c ∷ cs) ≡ of_digits vars false (c ∷ cs)
literal_plain vars c cs e = rw e refl

pub literal_signed : (vars : ℕ) (negated : Bool) (ds : List ℕ) → is_number ds ≡ true → literal_of vars (signed negated ds) ≡ of_digits vars negated ds
literal_signed vars true ds h = refl
literal_signed vars false [] h = cc
literal_signed vars false (c ∷ cs) h =
    let w = both_true (list_all is_digit (c ∷ cs)) (not (eqb c 48)) h in
    literal_plain vars c cs (digit_no_minus c (both_true (is_digit c) (list_all is_digit cs) w.0).0)

pub some_digits : (vars : ℕ) (negated : Bool) (ds : List ℕ) (l : LitOf) → of_digits vars negated ds ≡ Some l → (is_number ds ≡ true) × (value ds ≤ vars) × (l ≡ literal (value ds) negated)
some_digits vars negated ds l h = on (is_number ds && leb (value ds) vars) refl h
  where
    on : (b : Bool) → (is_number ds && leb (value ds) vars) ≡ b → cond b (Some (literal (value ds) negated)) None ≡ Some l → (is_number ds ≡ true) × (value ds ≤ vars) × (l ≡ literal (value ds) negated)
    on true e k = let w = both_true (is_number ds) (leb (value ds) vars) e in let i : l ≡ literal (value ds) negated = cc in (w.0, leb-true (value ds) vars w.1, i)
    on false e k = cc

-- a literal's sign and digits
pub record HasDigits (vars : ℕ) (text : List ℕ) (l : LitOf) : Type 0 where
  pub digits : List ℕ
  pub are : text ≡ signed l.negated digits
  pub number : is_number digits ≡ true
  pub var : l.var ≡ value digits
  pub within : value digits ≤ vars

pub has_digits : (vars : ℕ) (text : List ℕ) (l : LitOf) → literal_of vars text ≡ Some l → HasDigits vars text l
has_digits vars [] l h = cc
has_digits vars (c ∷ cs) l h =
    elim (cases_Bool (eqb c 45)) [
      | inl t ↦
          let i : c ≡ 45 = eqb-true c 45 t in
          let w = some_digits vars true cs l (subst (λ z. literal_of vars (z ∷ cs) ≡ Some l) i h) in
          let n : l.negated ≡ true = ap (λ (z : LitOf). z.negated) w.2 in
          record { digits = cs; are = ap (λ z. z ∷ cs) i ∙ ap (λ z. signed z cs) (sym n); number = w.0; var = ap (λ (z : LitOf). z.var) w.2; within = w.1 }
      | inr f ↦
          let w = some_digits vars false (c ∷ cs) l (sym (literal_plain vars c cs f) ∙ h) in
          let n : l.negated ≡ false = ap (λ (z : LitOf). z.negated) w.2 in
          record { digits = c ∷ cs; are = ap (λ z. signed z (c ∷ cs)) (sym n); number = w.0; var = ap (λ (z : LitOf). z.var) w.2; within = w.1 }
    ]

-- digits go on with a byte exactly where they are then a variable's, or the first of one's
pub record GoesOn (vars n b : ℕ) : Type 0 where
  pub digit : is_digit b ≡ true
  pub above : 1 ≤ with_digit n b
  pub within : with_digit n b ≤ vars

pub goes_on_is : (vars n b : ℕ) → goes_on vars n b ≡ true → GoesOn vars n b
goes_on_is vars n b h =
    let w = both_true (is_digit b && leb 1 (with_digit n b)) (leb (with_digit n b) vars) h in
    let v = both_true (is_digit b) (leb 1 (with_digit n b)) w.0 in
    record { digit = v.0; above = leb-true 1 (with_digit n b) v.1; within = leb-true (with_digit n b) vars w.1 }

pub is_goes_on : (vars n b : ℕ) → GoesOn vars n b → goes_on vars n b ≡ true
is_goes_on vars n b h =
    both (is_digit b && leb 1 (with_digit n b)) (leb (with_digit n b) vars) (both (is_digit b) (leb 1 (with_digit n b)) h.digit (le-leb 1 (with_digit n b) h.above)) (le-leb (with_digit n b) vars h.within)

pub digit_step : (vars : ℕ) (negated : Bool) (ds : List ℕ) (b : ℕ) → IsFront ds → goes_on vars (value ds) b ≡ true
    → literal_of vars (signed negated (ds ++ b ∷ [])) ≡ Some (literal (with_digit (value ds) b) negated)
digit_step vars negated ds b h g =
    let w = goes_on_is vars (value ds) b g in
    let n : is_number (ds ++ b ∷ []) ≡ true = number_push ds b h w.digit w.above in
    let v : value (ds ++ b ∷ []) ≡ with_digit (value ds) b = value_push ds b w.digit in
    let l : leb (value (ds ++ b ∷ [])) vars ≡ true = ap (λ z. leb z vars) v ∙ le-leb (with_digit (value ds) b) vars w.within in
    let c : (is_number (ds ++ b ∷ []) && leb (value (ds ++ b ∷ [])) vars) ≡ true = both (is_number (ds ++ b ∷ [])) (leb (value (ds ++ b ∷ [])) vars) n l in
    literal_signed vars negated (ds ++ b ∷ []) n
    ∙ ap (λ z. cond z (Some (literal (value (ds ++ b ∷ [])) negated)) None) c
    ∙ ap (λ z. Some (literal z negated)) v

pub digit_back : (vars : ℕ) (negated : Bool) (ds : List ℕ) (b : ℕ) (more : List ℕ) (l : LitOf) → of_digits vars negated (ds ++ b ∷ more) ≡ Some l → goes_on vars (value ds) b ≡ true
digit_back vars negated ds b more l h =
    let w = some_digits vars negated (ds ++ b ∷ more) l h in
    let f = number_front ds b more w.0 in
    let a = number_above (ds ++ b ∷ []) f.1 in
    let v : value (ds ++ b ∷ []) ≡ with_digit (value ds) b = value_push ds b f.0 in
    let m = value_front ds b more in
    is_goes_on vars (value ds) b (record { digit = f.0; above = subst (λ z. 1 ≤ z) v a; within = subst (λ z. z ≤ vars) v (omega (arith, m, w.1)) })
