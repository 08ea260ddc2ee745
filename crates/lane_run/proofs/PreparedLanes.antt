-- Lanes that got their bays keep what was prepared for them.
use Rattle.std.proofs.Common.{◌≡◌, ℕ, zero, suc, ◌<◌, All, List, [], ◌∷◌, length, map, subst, arith}
use Rattle.std.specs.Prelude.{slice_index_or}

module _ {X Y R N : Type 0} (report : X → R) (notes : X → N) (report' : Y → R) (notes' : Y → N) where
  head_report : (x : X) (y : Y) (xs : List X) (ys : List Y) → map report (x ∷ xs) ≡ map report' (y ∷ ys) → report x ≡ report' y
  head_report x y xs ys h = cc

  head_notes : (x : X) (y : Y) (xs : List X) (ys : List Y) → map notes (x ∷ xs) ≡ map notes' (y ∷ ys) → notes x ≡ notes' y
  head_notes x y xs ys h = cc

  rest_reports : (x : X) (y : Y) (xs : List X) (ys : List Y) → map report (x ∷ xs) ≡ map report' (y ∷ ys) → map report xs ≡ map report' ys
  rest_reports x y xs ys h = cc

  rest_notes : (x : X) (y : Y) (xs : List X) (ys : List Y) → map notes (x ∷ xs) ≡ map notes' (y ∷ ys) → map notes xs ≡ map notes' ys
  rest_notes x y xs ys h = cc

  -- what holds of the prepared lane at each place holds of the lane with its bay
  pub each_prepared : (P : ℕ → R → N → Type 0) (xs : List X) (ys : List Y) → map report xs ≡ map report' ys → map notes xs ≡ map notes' ys
      → ((k : ℕ) (d : X) → k < length xs → P k (report (slice_index_or xs k d)) (notes (slice_index_or xs k d)))
      → (k : ℕ) (d : Y) → k < length ys → P k (report' (slice_index_or ys k d)) (notes' (slice_index_or ys k d))
  each_prepared P xs [] r n h k d lt = absurd (omega (lt, arith))
  each_prepared P [] (y ∷ ys) r n h k d lt = absurd cc
  each_prepared P (x ∷ xs) (y ∷ ys) r n h zero d lt =
      subst (λ (a : R). P 0 a (notes' y)) (head_report x y xs ys r) (subst (λ (b : N). P 0 (report x) b) (head_notes x y xs ys n) (h 0 x (omega arith)))
  each_prepared P (x ∷ xs) (y ∷ ys) r n h (suc k) d lt =
      each_prepared (λ i. P (suc i)) xs ys (rest_reports x y xs ys r) (rest_notes x y xs ys n) (λ j e l. h (suc j) e (omega (l, arith))) k d (omega (lt, arith))

-- what has one value for all
pub all_alike : {X Y V : Type 0} (f : Y → V) (v : V) (xs : List X) (ys : List Y) → map f ys ≡ map (λ _. v) xs → All (λ y. f y ≡ v) ys
all_alike f v xs [] is k d lt = absurd (omega (lt, arith))
all_alike f v [] (y ∷ ys) is k d lt = absurd (cc)
all_alike f v (x ∷ xs) (y ∷ ys) is zero d lt = cc
all_alike f v (x ∷ xs) (y ∷ ys) is (suc k) d lt = all_alike f v xs ys (cc) k d (omega (lt, arith))
