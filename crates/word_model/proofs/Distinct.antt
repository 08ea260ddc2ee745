-- Lists in which no element stands twice.
use Rattle.std.proofs.Common.{◌≡◌, ◌⊎◌, inl, inr, ℕ, zero, suc, ◌+◌, ◌<◌, ◌≤◌, Bool, true, false, cond, List, [], ◌∷◌, ◌++◌, length, map, Option, Some, Contains, refl, ap, sym, subst, ◌∙◌, arith}
use Rattle.std.specs.Prelude.{slice_get}
use Rattle.std.specs.List.{enumerate_from, filter, flat_map, range_with_len}
use Rattle.design_core.proofs.Lists.{Contains-from_place, one_at, place-from_Contains}
use Rattle.design_states.proofs.Giving.{from-lists}
use Rattle.model_core.proofs.Lists.{app_cases}
use Rattle.word_model.proofs.Alike.{from-filter}

abbrev pub Distinct : {X : Type 0} → List X → Type 0
Distinct {X} xs = (i j : ℕ) (x : X) → slice_get xs i ≡ Some x → slice_get xs j ≡ Some x → i ≡ j

pub distinct-none : {X : Type 0} → Distinct {X = X} []
distinct-none i j x h g = absurd cc

pub distinct-cons : {X : Type 0} (x : X) (xs : List X) → (Contains xs x → ⊥) → Distinct xs → Distinct (x ∷ xs)
distinct-cons x xs new h zero zero y a b = refl
distinct-cons {X = X} x xs new h zero (suc j) y a b = let same : x ≡ y = cc in absurd (new (Contains-from_place xs j x (subst (λ (z : X). slice_get xs j ≡ Some z) (sym same) b)))
distinct-cons {X = X} x xs new h (suc i) zero y a b = let same : x ≡ y = cc in absurd (new (Contains-from_place xs i x (subst (λ (z : X). slice_get xs i ≡ Some z) (sym same) a)))
distinct-cons x xs new h (suc i) (suc j) y a b = ap suc (h i j y a b)

pub distinct-append : {X : Type 0} (xs ys : List X) → Distinct xs → Distinct ys → ((x : X) → Contains xs x → Contains ys x → ⊥) → Distinct (xs ++ ys)
distinct-append xs ys h g apart i j x a b =
    elim (app_cases xs ys i x a) as (λ _. i ≡ j) [
      | inl first ↦ elim (app_cases xs ys j x b) as (λ _. i ≡ j) [
        | inl other ↦ h i j x first other
        | inr later ↦ absurd (apart x (Contains-from_place xs i x first) (Contains-from_place ys later.0 x later.2))
      ]
      | inr later ↦ elim (app_cases xs ys j x b) as (λ _. i ≡ j) [
        | inl other ↦ absurd (apart x (Contains-from_place xs j x other) (Contains-from_place ys later.0 x later.2))
        | inr last ↦
            let same : later.0 ≡ last.0 = g later.0 last.0 x later.2 last.2 in
            let p = later.1 in
            let q = last.1 in
            omega (arith, same, p, q)
      ]
    ]

pub distinct-tail : {X : Type 0} (x : X) (xs : List X) → Distinct (x ∷ xs) → Distinct xs
distinct-tail x xs h i j y a b = let e : suc i ≡ suc j = h (suc i) (suc j) y a b in omega (arith, e)

mapped-back : {X Y : Type 0} (f : X → Y) (xs : List X) (k : ℕ) (y : Y) → slice_get (map f xs) k ≡ Some y → (x : X) × (slice_get xs k ≡ Some x) × (f x ≡ y)
mapped-back f [] k y h = absurd cc
mapped-back f (x ∷ xs) zero y h = (x, refl, cc)
mapped-back f (x ∷ xs) (suc k) y h = mapped-back f xs k y h

pub distinct-map : {X Y : Type 0} (f : X → Y) (xs : List X) → ((x y : X) → Contains xs x → Contains xs y → f x ≡ f y → x ≡ y) → Distinct xs → Distinct (map f xs)
distinct-map {X = X} f xs one h i j y a b =
    let p = mapped-back f xs i y a in
    let q = mapped-back f xs j y b in
    let same : p.0 ≡ q.0 = one p.0 q.0 (Contains-from_place xs i p.0 p.1) (Contains-from_place xs j q.0 q.1) (p.2 ∙ sym q.2) in
    h i j q.0 (subst (λ (z : X). slice_get xs i ≡ Some z) same p.1) q.1

pub distinct-flat : {X Y : Type 0} (f : X → List Y) (xs : List X) → ((k : ℕ) (x : X) → slice_get xs k ≡ Some x → Distinct (f x))
    → ((k l : ℕ) (x z : X) (y : Y) → slice_get xs k ≡ Some x → slice_get xs l ≡ Some z → Contains (f x) y → Contains (f z) y → k ≡ l) → Distinct (flat_map f xs)
distinct-flat f [] each apart = distinct-none
distinct-flat f (x ∷ xs) each apart =
    distinct-append (f x) (flat_map f xs) (each 0 x refl)
    (distinct-flat f xs (λ k z at. each (suc k) z at) (λ k l z w y a b p q. let e : suc k ≡ suc l = apart (suc k) (suc l) z w y a b p q in omega (arith, e)))
    (λ y h g.
    let r = from-lists f xs y g in
    let e : 0 ≡ suc r.0 = apart 0 (suc r.0) x r.1 y refl r.2 h r.3 in
    absurd (omega (arith, e)))

pub range-at : (a n k x : ℕ) → slice_get (range_with_len a n) k ≡ Some x → (x ≡ a + k) × (k < n)
range-at a zero k x h = absurd cc
range-at a (suc n) zero x h = let same : a ≡ x = cc in (omega (arith, same), omega arith)
range-at a (suc n) (suc k) x h = let r = range-at (a + 1) n k x h in (let e = r.0 in omega (arith, e), let lt = r.1 in omega (arith, lt))

pub distinct-range : (a n : ℕ) → Distinct (range_with_len a n)
distinct-range a n i j x h g = let p = (range-at a n i x h).0 in let q = (range-at a n j x g).0 in omega (arith, p, q)

pub distinct-filter : {X : Type 0} (test : X → Bool) (xs : List X) → Distinct xs → Distinct (filter test xs)
distinct-filter test [] h = distinct-none
distinct-filter test (x ∷ xs) h = by (test x) (distinct-filter test xs (distinct-tail x xs h))
  where
    new : Contains (filter test xs) x → ⊥
    new c =
        let at = place-from_Contains (filter test xs) x c in
        let r = from-filter test xs at.0 x at.1 in
        let e : 0 ≡ suc r.0 = h 0 (suc r.0) x refl r.1 in
        absurd (omega (arith, e))

    by : (b : Bool) → Distinct (filter test xs) → Distinct (cond b (x ∷ filter test xs) (filter test xs))
    by true rest = distinct-cons x (filter test xs) new rest
    by false rest = rest
