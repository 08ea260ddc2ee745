-- The numbers of options, and the cycles that they give.
use Rattle.std.proofs.Common.{◌≡◌, ◌⊎◌, ℕ, ◌-◌, ◌*◌, ◌<◌, ◌≤◌, Bool, true, false, cond, ◌&&◌, List, [], ◌∷◌, Option, Some, None, refl, sym, inl, inr, arith, eqb, leb, ltb}
use Rattle.std.proofs.lemmas.Bool.{false≢true, and_cases, leb-true, leb-false, ltb-true, ltb-false, eqb-false}
use Rattle.std.proofs.lemmas.Nat.{div_below, le-div}
use Rattle.std.proofs.lemmas.Str.Parse.{digits_value-take-le}
use Rattle.std.specs.Prelude.{not, ◌||◌, is_some}
use Rattle.std.specs.List.{list_all}
use Rattle.std.specs.Str.Parse.{digits_value}
use Rattle.sby_terms.specs.Number.{is_digit, is_number, number_upto}
use Rattle.sby_terms.specs.Span.{IsSpan, IsStride, slices_from, slices_of}
use Rattle.sby_terms.specs.declared.span.Span.{Span}
use Rattle.sby_terms.proofs.Numbers.{both_true, digit_bounds, value_more}
use Rattle.sby_task.specs.Values.{number_of}
use Rattle.sby_task.specs.Cycles.{are_few, fits}
use Rattle.sby_task.proofs.RowsSaid.{none_some, some_same}

pub cond_some : {A : Type 0} (b : Bool) (v w : A) → cond b (Some v) None ≡ Some w → (b ≡ true) × (v ≡ w)
cond_some true v w h = (refl, some_same v w h)
cond_some false v w h = absurd (none_some w h)

pub cond_none : {A : Type 0} (b : Bool) (v : A) → cond b (Some v) None ≡ None → b ≡ false
cond_none true v h = absurd (none_some v (sym h))
cond_none false v h = refl

first_digit : (b : ℕ) → not (eqb b 48) ≡ true → 48 ≤ b → 48 < b
first_digit b h low = by (eqb b 48) refl h
  where
    by : (e : Bool) → eqb b 48 ≡ e → not e ≡ true → 48 < b
    by true e n = absurd (false≢true n)
    by false e n = let ne = eqb-false b 48 e in omega (arith, ne, low)

number_bounds : (most : ℕ) (word : List ℕ) (n : ℕ) → number_upto most word ≡ Some n → (1 ≤ n) × (n ≤ most)
number_bounds most [] n h = absurd (none_some n h)
number_bounds most (b ∷ bs) n h =
    let p = cond_some (is_number (b ∷ bs) && leb (digits_value 10 (b ∷ bs)) most) (digits_value 10 (b ∷ bs)) n h in
    let q = both_true (is_number (b ∷ bs)) (leb (digits_value 10 (b ∷ bs)) most) p.0 in
    let r = both_true (list_all is_digit (b ∷ bs)) (not (eqb b 48)) q.0 in
    let d = both_true (is_digit b) (list_all is_digit bs) r.0 in
    let low = first_digit b r.1 (digit_bounds b d.0).0 in
    let first = value_more (b ∷ bs) 0 0 (omega arith) d.0 refl in
    let more = digits_value-take-le 10 (b ∷ bs) 1 (omega arith) in
    let high = leb-true (digits_value 10 (b ∷ bs)) most q.1 in
    let is = p.1 in
    (omega (arith, low, first, more, is), omega (arith, high, is))

pub value_bounds : (most : ℕ) (value : List (List ℕ)) (n : ℕ) → number_of most value ≡ Some n → (1 ≤ n) × (n ≤ most)
value_bounds most [] n h = absurd (none_some n h)
value_bounds most (word ∷ []) n h = number_bounds most word n h
value_bounds most (word ∷ next ∷ words) n h = absurd (none_some n h)

pub none_are : (o p : Option ℕ) → not (is_some o || is_some p) ≡ true → (o ≡ None) × (p ≡ None)
none_are None None h = (refl, refl)
none_are None (Some n) h = absurd (false≢true h)
none_are (Some n) p h = absurd (false≢true h)

pub some_is : (o p : Option ℕ) → not (is_some o || is_some p) ≡ false → (is_some o ≡ true) ⊎ (is_some p ≡ true)
some_is None None h = absurd (false≢true (sym h))
some_is None (Some n) h = inr refl
some_is (Some n) p h = inl refl

few_slices : (cycles : ℕ) (stride : Option ℕ) → 0 < cycles → IsStride stride → are_few cycles stride ≡ true → slices_from cycles stride ≤ 1000
few_slices cycles None c s h = omega arith
few_slices cycles (Some stride) c s h =
    let most = leb-true cycles (1000 * stride) h in
    let below = div_below (cycles - 1) stride 1000 s (omega (arith, most, c)) in
    omega (arith, below)

many_slices : (cycles : ℕ) (stride : Option ℕ) → IsStride stride → are_few cycles stride ≡ false → 1000 < slices_from cycles stride
many_slices cycles None s h = absurd (false≢true (sym h))
many_slices cycles (Some stride) s h =
    let past = leb-false cycles (1000 * stride) h in
    let above = le-div 1000 (cycles - 1) stride s (omega (arith, past)) in
    omega (arith, above)

pub good_span : (span : Span) → IsStride span.stride → fits span ≡ true → IsSpan span
good_span span s h =
    let p = both_true (ltb span.skip span.depth) (are_few (span.depth - span.skip) span.stride) h in
    let l = ltb-true span.skip span.depth p.0 in
    record { some = l; stride = s; few = few_slices (span.depth - span.skip) span.stride (omega (arith, l)) s p.1 }

pub bad_span : (span : Span) → IsStride span.stride → fits span ≡ false → (span.depth ≤ span.skip) ⊎ (1000 < slices_of span)
bad_span span s h = elim (and_cases (ltb span.skip span.depth) (are_few (span.depth - span.skip) span.stride) h) as (λ _. (span.depth ≤ span.skip) ⊎ (1000 < slices_of span)) [
  | inl l ↦ inl (ltb-false span.skip span.depth l)
  | inr f ↦ inr (many_slices (span.depth - span.skip) span.stride s f)
]
