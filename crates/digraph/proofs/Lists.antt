-- Places of a list after a write and after a push, and walks.
use Rattle.std.proofs.Common.{◌≡◌, ◌⊎◌, ℕ, zero, suc, ◌<◌, ◌≤◌, List, [], ◌∷◌, ◌++◌, Option, Some, refl, sym, ap, ◌∙◌, subst, inl, inr, arith, set, length, length-append, get_or}
use Rattle.std.proofs.lemmas.Option.{slice_get-get_or}
use Rattle.std.proofs.lemmas.Bool.{cases_eq}
use Rattle.std.specs.Prelude.{slice_get}
use Rattle.digraph.specs.Graph.{Graph, HasEdge, Walk, Reaches, IsOnCycle}

pub get-set-same : {A : Type 0} (xs : List A) (i : ℕ) (x y : A) → slice_get xs i ≡ Some y → slice_get (set xs i x) i ≡ Some x
get-set-same [] i x y h = cc
get-set-same (z ∷ xs) zero x y h = refl
get-set-same (z ∷ xs) (suc i) x y h = get-set-same xs i x y h

pub get-set-other : {A : Type 0} (xs : List A) (i k : ℕ) (x : A) → (k ≡ i → ⊥) → slice_get (set xs i x) k ≡ slice_get xs k
get-set-other [] i k x n = refl
get-set-other (z ∷ xs) zero zero x n = absurd (n refl)
get-set-other (z ∷ xs) zero (suc k) x n = refl
get-set-other (z ∷ xs) (suc i) zero x n = refl
get-set-other (z ∷ xs) (suc i) (suc k) x n = get-set-other xs i k x (λ e. n (ap suc e))

pub get-push-old : {A : Type 0} (xs : List A) (x y : A) (k : ℕ) → slice_get xs k ≡ Some y → slice_get (xs ++ x ∷ []) k ≡ Some y
get-push-old [] x y k h = cc
get-push-old (z ∷ xs) x y zero h = h
get-push-old (z ∷ xs) x y (suc k) h = get-push-old xs x y k h

pub get-push-new : {A : Type 0} (xs : List A) (x : A) → slice_get (xs ++ x ∷ []) (length xs) ≡ Some x
get-push-new [] x = refl
get-push-new (z ∷ xs) x = get-push-new xs x

pub get-push-either : {A : Type 0} (xs : List A) (x y : A) (k : ℕ) → slice_get (xs ++ x ∷ []) k ≡ Some y → (slice_get xs k ≡ Some y) ⊎ ((k ≡ length xs) × (y ≡ x))
get-push-either [] x y zero h = inr (refl, cc)
get-push-either [] x y (suc k) h = cc
get-push-either (z ∷ xs) x y zero h = inl h
get-push-either (z ∷ xs) x y (suc k) h =
    elim (get-push-either xs x y k h) as (λ _. (slice_get xs k ≡ Some y) ⊎ ((suc k ≡ length (z ∷ xs)) × (y ≡ x))) [ inl p ↦ inl p | inr p ↦ inr (ap suc p.0, p.1) ]

pub get-below : {A : Type 0} (xs : List A) (k : ℕ) (y : A) → slice_get xs k ≡ Some y → k < length xs
get-below [] k y h = cc
get-below (z ∷ xs) zero y h = omega arith
get-below (z ∷ xs) (suc k) y h = let r = get-below xs k y h in omega arith

pub get-at : {A : Type 0} (xs : List A) (j : ℕ) → j < length xs → (c : A) × (slice_get xs j ≡ Some c)
get-at [] j h = absurd (omega arith)
get-at (x ∷ xs) zero h = (x, refl)
get-at (x ∷ xs) (suc j) h = get-at xs j (omega arith)

pub one-at : {A : Type 0} (xs : List A) (k : ℕ) (x y : A) → slice_get xs k ≡ Some x → slice_get xs k ≡ Some y → x ≡ y
one-at {A = A} xs k x y h i = let e : ◌≡◌ {A = Option A} (Some x) (Some y) = sym h ∙ i in cc

-- what stands below the last element stands below the list's end
pub within-push : {A : Type 0} (xs : List A) (x y : A) (k : ℕ) → slice_get (xs ++ x ∷ []) k ≡ Some y → k ≤ length xs
within-push xs x y k h = elim (get-push-either xs x y k h) as (λ _. k ≤ length xs) [
  | inl p ↦ let lt = get-below xs k y p in omega arith
  | inr p ↦ omega arith
]

pub reaches-itself : (g : Graph) (a : ℕ) → Reaches g a a
reaches-itself g a = (0, refl)

pub reaches-step : (g : Graph) (a b c : ℕ) → HasEdge g a b → Reaches g b c → Reaches g a c
reaches-step g a b c e r = (suc r.0, (b, e, r.1))

walk-on : (g : Graph) (n a b c : ℕ) → Walk g n a b → Reaches g b c → Reaches g a c
walk-on g zero a b c w r = subst (λ (x : ℕ). Reaches g x c) (sym w) r
walk-on g (suc n) a b c w r = reaches-step g a w.0 c w.1 (walk-on g n w.0 b c w.2 r)

pub reaches-on : (g : Graph) (a b c : ℕ) → Reaches g a b → Reaches g b c → Reaches g a c
reaches-on g a b c p r = walk-on g p.0 a b c p.1 r

pub reaches-edge : (g : Graph) (a b c : ℕ) → Reaches g a b → HasEdge g b c → Reaches g a c
reaches-edge g a b c p e = reaches-on g a b c p (reaches-step g b c c e (reaches-itself g c))

-- two nodes that reach each other are on a cycle
pub cycle-from_both : (g : Graph) (a b : ℕ) → (a ≡ b → ⊥) → Reaches g a b → Reaches g b a → IsOnCycle g a
cycle-from_both g a b other p r = by p.0 p.1
  where
    by : (n : ℕ) → Walk g n a b → IsOnCycle g a
    by zero w = absurd (other w)
    by (suc n) w = (w.0, w.1, walk-on g n w.0 b a w.2 r)

-- what stands in a list after a write
pub set-cases : {A : Type 0} (xs : List A) (i k : ℕ) (x y old : A) → slice_get xs i ≡ Some old → slice_get (set xs i x) k ≡ Some y
    → ((k ≡ i) × (y ≡ x)) ⊎ ((k ≡ i → ⊥) × (slice_get xs k ≡ Some y))
set-cases xs i k x y old at h = elim (cases_eq k i) as (λ _. ((k ≡ i) × (y ≡ x)) ⊎ ((k ≡ i → ⊥) × (slice_get xs k ≡ Some y))) [
  | inl e ↦ inl (e, one-at (set xs i x) i y x (subst (λ (z : ℕ). slice_get (set xs i x) z ≡ Some y) e h) (get-set-same xs i x old at))
  | inr n ↦ inr (n, sym (get-set-other xs i k x n) ∙ h)
]

-- the element that a loop has in hand
pub item-at : {A : Type 0} (xs : List A) (i : ℕ) (r : A) → r ≡ get_or xs i r → i < length xs → slice_get xs i ≡ Some r
item-at {A = A} xs i r e lt = slice_get-get_or xs i r lt ∙ ap (λ (x : A). Some x) (sym e)

pub length-push : {A : Type 0} (xs : List A) (x : A) → length (xs ++ x ∷ []) ≡ suc (length xs)
length-push xs x = omega (arith, length-append xs (x ∷ []))
