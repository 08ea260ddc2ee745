-- Places in lists with others after them, and after a write.
use Rattle.std.proofs.Common.{◌≡◌, ◌⊎◌, inl, inr, ℕ, zero, suc, ◌+◌, Bool, true, false, eqb, List, [], ◌∷◌, ◌++◌, length, set, Some, refl, ap, sym, subst, ◌∙◌, arith}
use Rattle.std.specs.Prelude.{slice_get}
use Rattle.std.proofs.lemmas.Bool.{eqb-true}
use Rattle.digraph.proofs.Lists.{get-set-other, get-set-same}
use Rattle.std.proofs.lemmas.Bool.{cases_eq}

pub get-behind : {A : Type 0} (xs ys : List A) (k : ℕ) → slice_get (xs ++ ys) (length xs + k) ≡ slice_get ys k
get-behind [] ys k = let e : 0 + k ≡ k = omega arith in ap (λ (n : ℕ). slice_get ys n) e
get-behind (x ∷ xs) ys k =
    let e : length (x ∷ xs) + k ≡ suc (length xs + k) = omega arith in
    ap (λ (n : ℕ). slice_get (x ∷ (xs ++ ys)) n) e ∙ get-behind xs ys k

pub get-either : {A : Type 0} (xs ys : List A) (k : ℕ) (x : A) → slice_get (xs ++ ys) k ≡ Some x → (slice_get xs k ≡ Some x) ⊎ ((j : ℕ) × (k ≡ length xs + j) × (slice_get ys j ≡ Some x))
get-either [] ys k x h = let e : k ≡ 0 + k = omega arith in inr (k, e, h)
get-either (y ∷ xs) ys zero x h = inl h
get-either (y ∷ xs) ys (suc k) x h =
    elim (get-either xs ys k x h) as (λ _. (slice_get xs k ≡ Some x) ⊎ ((j : ℕ) × (suc k ≡ length (y ∷ xs) + j) × (slice_get ys j ≡ Some x))) [
      | inl front ↦ inl front
      | inr rest ↦ let e = rest.1 in inr (rest.0, omega (arith, e), rest.2)
    ]

-- after a write either the written element stands there or the old one
pub get-written : {A : Type 0} (xs : List A) (i k : ℕ) (y z x : A) → slice_get xs i ≡ Some z → slice_get (set xs i y) k ≡ Some x → ((k ≡ i) × (x ≡ y)) ⊎ ((k ≡ i → ⊥) × (slice_get xs k ≡ Some x))
get-written {A = A} xs i k y z x at h =
    elim (cases_eq k i) as (λ _. ((k ≡ i) × (x ≡ y)) ⊎ ((k ≡ i → ⊥) × (slice_get xs k ≡ Some x))) [
      | inl e ↦
          let there : slice_get (set xs i y) i ≡ Some x = subst (λ (n : ℕ). slice_get (set xs i y) n ≡ Some x) e h in
          let same : ◌≡◌ {A = _} (Some x) (Some y) = sym there ∙ get-set-same xs i y z at in
          inl (e, cc)
      | inr n ↦ inr (n, sym (get-set-other xs i k y n) ∙ h)
    ]

pub eqb-other : (a b : ℕ) → (a ≡ b → ⊥) → eqb a b ≡ false
eqb-other a b n = by (eqb a b) (λ e. n (eqb-true a b e))
  where
    by : (x : Bool) → (x ≡ true → ⊥) → x ≡ false
    by true h = absurd (h refl)
    by false h = refl
