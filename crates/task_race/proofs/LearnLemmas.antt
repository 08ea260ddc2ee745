-- What is learned of a list's elements, one after the other.
use Rattle.std.proofs.Common.{◌≡◌, ◌⊎◌, inl, inr, ℕ, ◌+◌, ◌<◌, ◌≤◌, List, length, get_or, Some, Contains, sym, ap, subst, ◌∙◌, arith}
use Rattle.std.specs.Prelude.{slice_get}
use Rattle.std.proofs.lemmas.Option.{get_or_from_slice_get, slice_get-get_or}

apart : (j i : ℕ) → j < i + 1 → (j < i) ⊎ (j ≡ i)
apart j i h = grind (arith, h)

-- of one more
pub learned_more : {X : Type 0} (P : X → Type 0) (xs : List X) (i : ℕ) (x : X) → x ≡ get_or xs i x → ((j : ℕ) (y : X) → j < i → slice_get xs j ≡ Some y → P y) → P x
    → (j : ℕ) (y : X) → j < i + 1 → slice_get xs j ≡ Some y → P y
learned_more {X} P xs i x at before here j y lt is = elim (apart j i lt) [
  | inl less ↦ before j y less is
  | inr same ↦ subst P (at ∙ (ap (λ (k : ℕ). get_or xs k x) (sym same) ∙ get_or_from_slice_get xs j y x is)) here
]

-- of all
pub learned_all : {X : Type 0} (P : X → Type 0) (xs : List X) (i : ℕ) → length xs ≤ i → ((j : ℕ) (y : X) → j < i → slice_get xs j ≡ Some y → P y) → (y : X) → Contains xs y → P y
learned_all P xs i h each y c = each c.0 y (omega (h, c.1, arith)) (slice_get-get_or xs c.0 y c.1 ∙ ap Some c.2)
