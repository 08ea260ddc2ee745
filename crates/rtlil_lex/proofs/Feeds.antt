-- The first byte that ends a run, by its place.
use Rattle.std.proofs.Common.{◌≡◌, ℕ, zero, suc, ◌<◌, Bool, true, false, cond, List, [], ◌∷◌, length, drop, get_or, refl, ap, sym, ◌∙◌, arith}
use Rattle.rtlil_lex.specs.Steps.{after_run_of}

module _ (ends : ℕ → Bool) where
  is_not : (b : Bool) → (b ≡ true → ⊥) → b ≡ false
  is_not true h = absurd (h refl)
  is_not false h = refl

  pub from_first : (bytes : List ℕ) (k : ℕ) → k < length bytes → ((i : ℕ) → i < k → ends (get_or bytes i 0) ≡ true → ⊥) → ends (get_or bytes k 0) ≡ true
      → drop k bytes ≡ after_run_of ends bytes
  from_first [] k lt before here = absurd (omega arith)
  from_first (b ∷ bytes) zero lt before here = sym (ap (λ (t : Bool). cond t (b ∷ bytes) (after_run_of ends bytes)) here)
  from_first (b ∷ bytes) (suc k) lt before here =
      from_first bytes k (omega arith) (λ i h. before (suc i) (omega (arith, h))) here
      ∙ sym (ap (λ (t : Bool). cond t (b ∷ bytes) (after_run_of ends bytes)) (is_not (ends b) (before 0 (omega arith))))

  pub from_none : (bytes : List ℕ) → ((i : ℕ) → i < length bytes → ends (get_or bytes i 0) ≡ true → ⊥) → [] ≡ after_run_of ends bytes
  from_none [] none = refl
  from_none (b ∷ bytes) none =
      from_none bytes (λ i h. none (suc i) (omega (arith, h)))
      ∙ sym (ap (λ (t : Bool). cond t (b ∷ bytes) (after_run_of ends bytes)) (is_not (ends b) (none 0 (omega arith))))
