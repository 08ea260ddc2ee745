-- How often a place stands in a list.
use Rattle.std.proofs.Common.{◌≡◌, inl, inr, ℕ, zero, suc, ◌+◌, ◌<◌, ◌≤◌, Bool, true, false, not, cond, List, [], ◌∷◌, ◌++◌, Some, refl, sym, ap, subst, arith}
use Rattle.std.specs.Prelude.{Contains, eqb, slice_get}
use Rattle.std.specs.List.{filter}
use Rattle.std.proofs.lemmas.Bool.{cases_eq}
use Rattle.model_core.specs.Shape.{IsDistinct}
use Rattle.model_core.proofs.Lists.{contained_at, place_of_contained}

pub count : ℕ → List ℕ → ℕ
count p [] = 0
count p (q ∷ qs) = cond (eqb p q) 1 0 + count p qs

count-here : (p : ℕ) (qs : List ℕ) → count p (p ∷ qs) ≡ 1 + count p qs
unfolding count
count-here p qs = grind arith

count-there : (p q : ℕ) (qs : List ℕ) → (p ≡ q → ⊥) → count p (q ∷ qs) ≡ count p qs
unfolding count
count-there p q qs n = by (eqb p q) refl
  where
    by : (b : Bool) → eqb p q ≡ b → cond b 1 0 + count p qs ≡ count p qs
    by true e = absurd (n (grind (arith, e)))
    by false e = omega arith

pub count-append : (p : ℕ) (xs ys : List ℕ) → count p (xs ++ ys) ≡ count p xs + count p ys
unfolding count
count-append p [] ys = omega arith
count-append p (x ∷ xs) ys = let r = count-append p xs ys in omega arith

pub count-filter : (p : ℕ) (test : ℕ → Bool) (xs : List ℕ) → count p (filter test xs) + count p (filter (λ q. not (test q)) xs) ≡ count p xs
unfolding count
count-filter p test [] = refl
count-filter p test (x ∷ xs) = by (test x) (count-filter p test xs)
  where
    by : (b : Bool) → count p (filter test xs) + count p (filter (λ q. not (test q)) xs) ≡ count p xs
        → count p (cond b (x ∷ filter test xs) (filter test xs)) + count p (cond (not b) (x ∷ filter (λ q. not (test q)) xs) (filter (λ q. not (test q)) xs)) ≡ cond (eqb p x) 1 0 + count p xs
    by true h = omega arith
    by false h = omega arith

pub contains-count : (p : ℕ) (xs : List ℕ) → Contains xs p → 0 < count p xs
contains-count p xs c = let at = place_of_contained xs p c in by xs at.0 at.1
  where
    by : (xs : List ℕ) (k : ℕ) → slice_get xs k ≡ Some p → 0 < count p xs
    by [] k e = absurd cc
    by (x ∷ xs) zero e = let same : x ≡ p = cc in let h = count-here p xs in rw same (omega arith)
    by (x ∷ xs) (suc k) e =
        elim (cases_eq p x) as (λ _. 0 < count p (x ∷ xs)) [
          | inl same ↦ let h = count-here p xs in subst (λ (z : ℕ). 0 < count p (z ∷ xs)) same (omega arith)
          | inr other ↦ let h = count-there p x xs other in let r = by xs k e in omega arith
        ]

pub count-contains : (p : ℕ) (xs : List ℕ) → 0 < count p xs → Contains xs p
unfolding count
count-contains p [] h = absurd (omega arith)
count-contains p (x ∷ xs) h =
    elim (cases_eq p x) as (λ _. Contains (x ∷ xs) p) [
      | inl same ↦ contained_at (x ∷ xs) p 0 (ap Some (sym same))
      | inr other ↦
          let e = count-there p x xs other in
          let at = place_of_contained xs p (count-contains p xs (omega arith)) in
          contained_at (x ∷ xs) p (suc at.0) at.1
    ]

pub distinct-count : (xs : List ℕ) → IsDistinct xs → (p : ℕ) → count p xs ≤ 1
unfolding count
distinct-count [] h p = omega arith
distinct-count (x ∷ xs) h p =
    elim (cases_eq p x) as (λ _. count p (x ∷ xs) ≤ 1) [
      | inl same ↦ first same (count p xs) refl
      | inr other ↦ let e = count-there p x xs other in let r = distinct-count xs rest p in omega arith
    ]
  where
    rest : IsDistinct xs
    rest i j q a b = let e : suc i ≡ suc j = h (suc i) (suc j) q a b in omega arith

    first : p ≡ x → (n : ℕ) → count p xs ≡ n → count p (x ∷ xs) ≤ 1
    first same zero e = let k = count-here p xs in subst (λ (z : ℕ). count p (z ∷ xs) ≤ 1) same (omega arith)
    first same (suc n) e =
        let at = place_of_contained xs p (count-contains p xs (omega arith)) in
        let clash : 0 ≡ suc at.0 = h 0 (suc at.0) p (ap Some (sym same)) at.1 in
        absurd (omega arith)

pub count-distinct : (xs : List ℕ) → ((p : ℕ) → count p xs ≤ 1) → IsDistinct xs
count-distinct xs h i j p a b = by xs h i j a b
  where
    later : (x : ℕ) (xs : List ℕ) → ((p : ℕ) → count p (x ∷ xs) ≤ 1) → (q : ℕ) → count q xs ≤ 1
    later x xs h q =
        elim (cases_eq q x) as (λ _. count q xs ≤ 1) [
          | inl same ↦ let k = count-here q xs in let w : count q (q ∷ xs) ≤ 1 = subst (λ (z : ℕ). count q (z ∷ xs) ≤ 1) (sym same) (h q) in omega arith
          | inr other ↦ let e = count-there q x xs other in let w = h q in omega arith
        ]

    clash : (x : ℕ) (xs : List ℕ) → ((p : ℕ) → count p (x ∷ xs) ≤ 1) → (k : ℕ) → x ≡ p → slice_get xs k ≡ Some p → ⊥
    clash x xs h k same e =
        let n = contains-count p xs (contained_at xs p k e) in
        let c = count-here p xs in
        let w : count p (p ∷ xs) ≤ 1 = subst (λ (z : ℕ). count p (z ∷ xs) ≤ 1) same (h p) in
        omega arith

    by : (xs : List ℕ) → ((p : ℕ) → count p xs ≤ 1) → (i j : ℕ) → slice_get xs i ≡ Some p → slice_get xs j ≡ Some p → i ≡ j
    by [] h i j a b = absurd cc
    by (x ∷ xs) h zero zero a b = refl
    by (x ∷ xs) h zero (suc j) a b = absurd (clash x xs h j (cc) b)
    by (x ∷ xs) h (suc i) zero a b = absurd (clash x xs h i (cc) a)
    by (x ∷ xs) h (suc i) (suc j) a b = ap suc (by xs (later x xs h) i j a b)
