-- Places that get new seats, one after the other.
use Rattle.std.proofs.Common.{◌≡◌, ◌⊎◌, inl, inr, ℕ, zero, suc, ◌+◌, ◌<◌, ◌≢◌, List, [], ◌∷◌, ◌++◌, Some, length, get_or, set, take, refl, sym, ap, subst, ◌∙◌, arith}
use Rattle.std.specs.Prelude.{Contains, slice_get}
use Rattle.std.proofs.lemmas.Bool.{cases_eq}
use Rattle.std.proofs.lemmas.List.{length-set, length-take-le, take_more}
use Rattle.btor_core.specs.declared.line.Word.{Word}
use Rattle.btor_emit.specs.Stretching.{IsReseated, IsSeated}
use Rattle.btor_emit.specs.Table.{Table}
use Rattle.btor_emit.specs.declared.table.Seat.{Seat}
use Rattle.btor_emit.specs.declared.table.Seat.TheVariants.{Bit}
use Rattle.model_core.proofs.Lists.{app_cases, app_left, app_right, contained_at, nothing_at, place_of_contained}

pub set_at : (xs : Table) (x : ℕ) (v : Seat) → x < length xs → slice_get (set xs x v) x ≡ Some v
set_at [] x v l = absurd (omega arith)
set_at (y ∷ xs) zero v l = refl
set_at (y ∷ xs) (suc x) v l = set_at xs x v (omega arith)

pub set_beside : (xs : Table) (x p : ℕ) (v : Seat) → (p ≡ x → ⊥) → slice_get (set xs x v) p ≡ slice_get xs p
set_beside [] x p v n = refl
set_beside (y ∷ xs) zero zero v n = absurd (n refl)
set_beside (y ∷ xs) zero (suc p) v n = refl
set_beside (y ∷ xs) (suc x) zero v n = refl
set_beside (y ∷ xs) (suc x) (suc p) v n = set_beside xs x p v (λ e. n (ap suc e))

module _ (places : List ℕ) (i x : ℕ) (l : i < length places) (e : x ≡ get_or places i x) where
  more : take (i + 1) places ≡ take i places ++ x ∷ []
  more = take_more places i x l ∙ ap (λ (z : ℕ). take i places ++ z ∷ []) (sym e)

  last : (p : ℕ) → p ≡ x → slice_get (take (i + 1) places) i ≡ Some p
  last p q =
      let w = length-take-le i places (omega arith) in
      let n : i ≡ length (take i places) + 0 = omega arith in
      rw (more, q) (app_right (take i places) (x ∷ []) 0 i n)

  kept : (k p : ℕ) → slice_get (take i places) k ≡ Some p → slice_get (take (i + 1) places) k ≡ Some p
  kept k p h = rw more (app_left (take i places) (x ∷ []) k p h)

  only_last : (k p : ℕ) → slice_get (x ∷ []) k ≡ Some p → p ≡ x
  only_last zero p h = let z : x ≡ p = cc in sym z
  only_last (suc k) p h = absurd (nothing_at k p h)

  either : (p : ℕ) → Contains (take (i + 1) places) p → Contains (take i places) p ⊎ (p ≡ x)
  either p c =
      let at = place_of_contained (take (i + 1) places) p c in
      let there : slice_get (take i places ++ x ∷ []) at.0 ≡ Some p = subst (λ (ps : List ℕ). slice_get ps at.0 ≡ Some p) more at.1 in
      elim (app_cases (take i places) (x ∷ []) at.0 p there) as (λ _. Contains (take i places) p ⊎ (p ≡ x)) [
        | inl h ↦ inl (contained_at (take i places) p at.0 h)
        | inr h ↦ inr (only_last h.0 p h.2)
      ]

  pub seated_more : (old mid : Table) (w : Word) → x < length mid → IsSeated old mid (take i places) w → IsSeated old (set mid x (Bit w i)) (take (i + 1) places) w
  seated_more old mid w inside before = record { size = length-set mid x (Bit w i) ∙ before.size; each = λ p. by p (cases_eq p x) }
    where
      by : (p : ℕ) → (p ≡ x) ⊎ (p ≢ x) → ((k : ℕ) × (slice_get (take (i + 1) places) k ≡ Some p) × (slice_get (set mid x (Bit w i)) p ≡ Some (Bit w k))) ⊎ ((Contains (take (i + 1) places) p → ⊥) × (slice_get (set mid x (Bit w i)) p ≡ slice_get old p))
      by p (inl q) = inl (i, last p q, subst (λ (k : ℕ). slice_get (set mid x (Bit w i)) k ≡ Some (Bit w i)) (sym q) (set_at mid x (Bit w i) inside))
      by p (inr n) =
          elim (before.each p) as (λ _. ((k : ℕ) × (slice_get (take (i + 1) places) k ≡ Some p) × (slice_get (set mid x (Bit w i)) p ≡ Some (Bit w k))) ⊎ ((Contains (take (i + 1) places) p → ⊥) × (slice_get (set mid x (Bit w i)) p ≡ slice_get old p))) [
            | inl h ↦ inl (h.0, kept h.0 p h.1, set_beside mid x p (Bit w i) n ∙ h.2)
            | inr h ↦ inr ((λ c. elim (either p c) as (λ _. ⊥) [ inl a ↦ h.0 a | inr a ↦ n a ]), set_beside mid x p (Bit w i) n ∙ h.1)
          ]

  reseated_set : (old mid : Table) (w : Word) → x < length mid → IsReseated old mid (take i places) w → IsReseated old (set mid x (Bit w i)) (take (i + 1) places) w
  reseated_set old mid w inside before = record { size = length-set mid x (Bit w i) ∙ before.size; each = λ p. by p (cases_eq p x) }
    where
      by : (p : ℕ) → (p ≡ x) ⊎ (p ≢ x) → ((k : ℕ) × (slice_get (take (i + 1) places) k ≡ Some p) × (slice_get (set mid x (Bit w i)) p ≡ Some (Bit w k))) ⊎ (slice_get (set mid x (Bit w i)) p ≡ slice_get old p)
      by p (inl q) = inl (i, last p q, subst (λ (k : ℕ). slice_get (set mid x (Bit w i)) k ≡ Some (Bit w i)) (sym q) (set_at mid x (Bit w i) inside))
      by p (inr n) =
          elim (before.each p) as (λ _. ((k : ℕ) × (slice_get (take (i + 1) places) k ≡ Some p) × (slice_get (set mid x (Bit w i)) p ≡ Some (Bit w k))) ⊎ (slice_get (set mid x (Bit w i)) p ≡ slice_get old p)) [
            | inl h ↦ inl (h.0, kept h.0 p h.1, set_beside mid x p (Bit w i) n ∙ h.2)
            | inr h ↦ inr (set_beside mid x p (Bit w i) n ∙ h)
          ]

  reseated_same : (old mid : Table) (w : Word) → IsReseated old mid (take i places) w → IsReseated old mid (take (i + 1) places) w
  reseated_same old mid w before = record { size = before.size; each = by }
    where
      by : (p : ℕ) → ((k : ℕ) × (slice_get (take (i + 1) places) k ≡ Some p) × (slice_get mid p ≡ Some (Bit w k))) ⊎ (slice_get mid p ≡ slice_get old p)
      by p =
          elim (before.each p) as (λ _. ((k : ℕ) × (slice_get (take (i + 1) places) k ≡ Some p) × (slice_get mid p ≡ Some (Bit w k))) ⊎ (slice_get mid p ≡ slice_get old p)) [
            | inl h ↦ inl (h.0, kept h.0 p h.1, h.2)
            | inr h ↦ inr h
          ]

  pub reseated_more : (old mid new : Table) (w : Word) → x < length mid → IsReseated old mid (take i places) w → (new ≡ set mid x (Bit w i)) ⊎ (new ≡ mid) → IsReseated old new (take (i + 1) places) w
  reseated_more old mid new w inside before (inl e) = subst (λ (t : Table). IsReseated old t (take (i + 1) places) w) (sym e) (reseated_set old mid w inside before)
  reseated_more old mid new w inside before (inr e) = subst (λ (t : Table). IsReseated old t (take (i + 1) places) w) (sym e) (reseated_same old mid w before)

pub seated_none : (t : Table) (w : Word) → IsSeated t t [] w
seated_none t w = record { size = refl; each = λ p. inr ((λ c. let at = place_of_contained [] p c in nothing_at at.0 p at.1), refl) }

pub reseated_none : (t : Table) (w : Word) → IsReseated t t [] w
reseated_none t w = record { size = refl; each = λ p. inr refl }
