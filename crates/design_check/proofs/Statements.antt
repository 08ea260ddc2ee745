-- Statements in a cycle, and their numbers.
use Rattle.std.proofs.lemmas.Bool.Decides.{eqb_tells}
use Rattle.std.proofs.Common.{◌≡◌, ◌≢◌, ◌⊎◌, inl, inr, ℕ, zero, suc, ◌+◌, ◌*◌, ◌<◌, Bool, true, false, not, cond, ◌&&◌, eqb, List, [], ◌∷◌, ◌++◌, length, get_or, take, map, Some, refl, ap, sym, ◌∙◌, arith}
use Rattle.std.specs.Prelude.{slice_get}
use Rattle.std.specs.List.{filter}
use Rattle.std.proofs.lemmas.Bool.{false≢true, true≢false, eqb-true, eq-eqb}
use Rattle.std.proofs.lemmas.List.{take_more, length-append}
use Rattle.sby_bits.specs.Rows.{num}
use Rattle.design_core.specs.Cells.{is_set}

module _ {X : Type 0} (f : X → Bool) where
  set-bit : (b : Bool) (r : List Bool) → b ≡ true → is_set (b ∷ r) ≡ true
  set-bit true r h = ap not (no_more (1 + 2 * num r) (λ e. absurd (omega (arith, e))))
    where
      no_more : (n : ℕ) → (n ≡ 0 → ⊥) → eqb n 0 ≡ false
      no_more n none = by (eqb n 0) (λ e. none (eqb-true n 0 e))
        where
          by : (b : Bool) → (b ≡ true → ⊥) → b ≡ false
          by true no' = absurd (no' refl)
          by false no' = refl
  set-bit false r h = absurd (false≢true h)

  same-zero : (m n : ℕ) → (m ≡ 0 → n ≡ 0) → (n ≡ 0 → m ≡ 0) → eqb m 0 ≡ eqb n 0
  same-zero m n to from = by (eqb m 0) (eqb n 0) (λ e. eq-eqb n 0 (to (eqb-true m 0 e))) (λ e. eq-eqb m 0 (from (eqb-true n 0 e)))
    where
      by : (s t : Bool) → (s ≡ true → t ≡ true) → (t ≡ true → s ≡ true) → s ≡ t
      by true t f g = sym (f refl)
      by false true f g = g refl
      by false false f g = refl

  clear-bit : (b : Bool) (r : List Bool) → b ≡ false → is_set (b ∷ r) ≡ is_set r
  clear-bit true r h = absurd (true≢false h)
  clear-bit false r h = ap not (same-zero (0 + 2 * num r) (num r) (λ e. omega (arith, e)) (λ e. omega (arith, e)))

  -- a row is set where its first bit is, or the rest
  pub set-front : (xs : List X) (x : X) (rest : List X) → xs ≡ x ∷ rest → f x ≡ true → is_set (map f xs) ≡ true
  set-front xs x rest e h = ap (λ (l : List X). is_set (map f l)) e ∙ set-bit (f x) (map f rest) h

  pub set-later : (xs : List X) (x : X) (rest : List X) → xs ≡ x ∷ rest → f x ≡ false → is_set (map f xs) ≡ is_set (map f rest)
  set-later xs x rest e h = ap (λ (l : List X). is_set (map f l)) e ∙ clear-bit (f x) (map f rest) h

pub broken-parts : (a b : Bool) → true ≡ (a && not b) → (a ≡ true) × (b ≡ false)
broken-parts true false h = (refl, refl)
broken-parts true true h = absurd (true≢false h)
broken-parts false b h = absurd (true≢false h)

pub unbroken-parts : (a b : Bool) → false ≡ (a && not b) → a ≡ true → b ≡ false → ⊥
unbroken-parts true false h e f = false≢true h
unbroken-parts true true h e f = true≢false f
unbroken-parts false b h e f = false≢true e

module _ {X : Type 0} (p : X → Bool) where
  at-by : (b : Bool) (y : X) (f g : List X) (x : X) → slice_get f (length g) ≡ Some x → slice_get (cond b (y ∷ f) f) (length (cond b (y ∷ g) g)) ≡ Some x
  at-by true y f g x h = h
  at-by false y f g x h = h

  -- the element at a place is, among those that pass, the one at the number of those before it
  pub filter-at : (xs : List X) (i : ℕ) (x : X) → slice_get xs i ≡ Some x → p x ≡ true → slice_get (filter p xs) (length (filter p (take i xs))) ≡ Some x
  filter-at [] i x h e = cc
  filter-at (y ∷ xs) zero x h e =
      let same : y ≡ x = cc in
      let passes : p y ≡ true = ap p same ∙ e in
      rw passes (ap (λ (z : X). Some z) same)
  filter-at (y ∷ xs) (suc i) x h e = at-by (p y) y (filter p xs) (filter p (take i xs)) x (filter-at xs i x h e)

  filter-push : (xs : List X) (x : X) → filter p (xs ++ x ∷ []) ≡ filter p xs ++ cond (p x) (x ∷ []) []
  filter-push [] x = refl
  filter-push (y ∷ xs) x = by (p y) (filter-push xs x)
    where
      by : (b : Bool) → filter p (xs ++ x ∷ []) ≡ filter p xs ++ cond (p x) (x ∷ []) []
          → cond b (y ∷ filter p (xs ++ x ∷ [])) (filter p (xs ++ x ∷ [])) ≡ cond b (y ∷ filter p xs) (filter p xs) ++ cond (p x) (x ∷ []) []
      by true e = ap (λ (l : List X). y ∷ l) e
      by false e = e

  count-by : (b : Bool) (n : ℕ) (x : X) → length (cond b (x ∷ []) []) ≡ cond b 1 0
  count-by true n x = refl
  count-by false n x = refl

  pub count-more : (xs : List X) (i : ℕ) (x : X) → i < length xs → x ≡ get_or xs i x
      → length (filter p (take (i + 1) xs)) ≡ length (filter p (take i xs)) + cond (p x) 1 0
  count-more xs i x lt is =
      ap (λ (l : List X). length (filter p l)) (take_more xs i x lt ∙ ap (λ (y : X). take i xs ++ y ∷ []) (sym is))
      ∙ (ap (λ (l : List X). length l) (filter-push (take i xs) x)
      ∙ (length-append (filter p (take i xs)) (cond (p x) (x ∷ []) []) ∙ ap (λ (n : ℕ). length (filter p (take i xs)) + n) (count-by (p x) 0 x)))

pub cases_same : (m n : ℕ) → (m ≡ n) ⊎ (m ≢ n)
cases_same m n = elim (eqb_tells m n) as (λ _. (m ≡ n) ⊎ (m ≢ n)) [ inl h ↦ inl h.1 | inr h ↦ inr h.1 ]
