-- The first place where something holds.
use Rattle.std.proofs.Common.{◌≡◌, ℕ, zero, suc, ◌+◌, ◌<◌, ◌≤◌, Bool, true, false, not, cond, List, [], ◌∷◌, length, Option, Some, None, refl, sym, subst, ◌∙◌, arith}
use Rattle.std.specs.Prelude.{slice_get, position, nat_lt}
use Rattle.std.specs.List.{position_or_len}
use Rattle.std.proofs.lemmas.Bool.{true≢false, ltb-true, ltb-false}
use Rattle.std.proofs.lemmas.Option.{slice_get_within}

abbrev pub IsFirstPlace : (ℕ → Type 0) → Option ℕ → Type 0
IsFirstPlace P None = (i : ℕ) → P i → ⊥
IsFirstPlace P (Some i) = P i × ((k : ℕ) → k < i → P k → ⊥)

module _ {X : Type 0} (p : X → Bool) where
  cases_before : (b : Bool) (y : X) (n : ℕ) (xs : List X) (k : ℕ) (x : X) → p y ≡ b → k < cond (not b) (1 + n) 0 → slice_get (y ∷ xs) k ≡ Some x
      → ((j : ℕ) → j < n → slice_get xs j ≡ Some x → p x ≡ false) → p x ≡ false
  cases_before true y n xs k x is lt at rest = absurd (omega arith)
  cases_before false y n xs zero x is lt at rest = let e : y ≡ x = cc in subst (λ (z : X). p z ≡ false) e is
  cases_before false y n xs (suc k) x is lt at rest = rest k (omega arith) at

  before_position : (xs : List X) (k : ℕ) (x : X) → k < position_or_len p xs → slice_get xs k ≡ Some x → p x ≡ false
  before_position [] k x lt h = cc
  before_position (y ∷ xs) k x lt h = cases_before (p y) y (position_or_len p xs) xs k x refl lt h (λ j less at. before_position xs j x less at)

  cases_at : (b : Bool) (y : X) (n : ℕ) (xs : List X) (x : X) → p y ≡ b → slice_get (y ∷ xs) (cond (not b) (1 + n) 0) ≡ Some x
      → (slice_get xs n ≡ Some x → p x ≡ true) → p x ≡ true
  cases_at true y n xs x is at rest = let e : y ≡ x = cc in subst (λ (z : X). p z ≡ true) e is
  cases_at false y n xs x is at rest = let one : 1 + n ≡ suc n = omega arith in rest (subst (λ (j : ℕ). slice_get (y ∷ xs) j ≡ Some x) one at)

  at_position : (xs : List X) (x : X) → slice_get xs (position_or_len p xs) ≡ Some x → p x ≡ true
  at_position [] x h = cc
  at_position (y ∷ xs) x h = cases_at (p y) y (position_or_len p xs) xs x refl h (at_position xs x)

  abbrev pub Passes : List X → ℕ → Type 0
  Passes xs i = (x : X) × (slice_get xs i ≡ Some x) × (p x ≡ true)

  there : (xs : List X) (n : ℕ) → n < length xs → (x : X) × (slice_get xs n ≡ Some x)
  there [] n lt = absurd (omega arith)
  there (y ∷ xs) zero lt = (y, refl)
  there (y ∷ xs) (suc n) lt = there xs n (omega arith)

  by_test : (xs : List X) (b : Bool) → nat_lt (position_or_len p xs) (length xs) ≡ b → IsFirstPlace (Passes xs) (cond b (Some (position_or_len p xs)) None)
  by_test xs true h =
      let lt : position_or_len p xs < length xs = ltb-true (position_or_len p xs) (length xs) h in
      let x = there xs (position_or_len p xs) lt in
      ((x.0, x.1, at_position xs x.0 x.1), λ k less e. true≢false (sym e.2 ∙ before_position xs k e.0 less e.1))
  by_test xs false h = λ i e.
      let within : i < length xs = slice_get_within xs i e.0 e.1 in
      let le : length xs ≤ position_or_len p xs = ltb-false (position_or_len p xs) (length xs) h in
      true≢false (sym e.2 ∙ before_position xs i e.0 (omega arith) e.1)

  -- `position` gives the first place that passes
  pub first-position : (xs : List X) → IsFirstPlace (Passes xs) (position p xs)
  first-position xs = by_test xs (nat_lt (position_or_len p xs) (length xs)) refl
