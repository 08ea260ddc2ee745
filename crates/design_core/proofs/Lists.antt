-- Elements by their places.
use Rattle.std.proofs.Common.{◌≡◌, inl, inr, ℕ, suc, ◌+◌, ◌<◌, ◌≤◌, List, [], ◌∷◌, length, get_or, Option, Some, Contains, All, refl, ap, sym, subst, ◌∙◌, arith}
use Rattle.std.specs.Prelude.{slice_get}
use Rattle.std.proofs.lemmas.Bool.{cases_lt}
use Rattle.std.proofs.lemmas.Option.{slice_get_within, get_or_from_slice_get, slice_get-get_or}

pub Contains-from_place : {X : Type 0} (xs : List X) (k : ℕ) (x : X) → slice_get xs k ≡ Some x → Contains xs x
Contains-from_place xs k x h = (k, slice_get_within xs k x h, get_or_from_slice_get xs k x x h)

pub place-from_Contains : {X : Type 0} (xs : List X) (x : X) → Contains xs x → (k : ℕ) × (slice_get xs k ≡ Some x)
place-from_Contains xs x h = (h.0, slice_get-get_or xs h.0 x h.1 ∙ ap Some h.2)

-- what holds of each element before a place, and of the one there, holds of each before the next place
pub each_more : {X : Type 0} (Q : X → Type 0) (xs : List X) (i : ℕ) → ((k : ℕ) (x : X) → k < i → slice_get xs k ≡ Some x → Q x)
    → ((x : X) → slice_get xs i ≡ Some x → Q x) → (k : ℕ) (x : X) → k < i + 1 → slice_get xs k ≡ Some x → Q x
each_more Q xs i before here k x lt h =
    elim (cases_lt k i) as (λ _. Q x) [
      | inl less ↦ before k x less h
      | inr more ↦ let e : k ≡ i = omega arith in here x (subst (λ (j : ℕ). slice_get xs j ≡ Some x) e h)
    ]

pub one_at : {X : Type 0} (xs : List X) (i : ℕ) (x y : X) → slice_get xs i ≡ Some x → slice_get xs i ≡ Some y → x ≡ y
one_at {X = X} xs i x y h k = let e : ◌≡◌ {A = Option X} (Some x) (Some y) = sym h ∙ k in cc

-- the element that a loop has in hand
pub item_is : {X : Type 0} (xs : List X) (i : ℕ) (r x : X) → r ≡ get_or xs i r → slice_get xs i ≡ Some x → r ≡ x
item_is xs i r x e h = e ∙ get_or_from_slice_get xs i x r h

pub item_at : {X : Type 0} (xs : List X) (i : ℕ) (r : X) → r ≡ get_or xs i r → i < length xs → slice_get xs i ≡ Some r
item_at {X = X} xs i r e lt = slice_get-get_or xs i r lt ∙ ap (λ (x : X). Some x) (sym e)

pub all_from_places : {X : Type 0} (Q : X → Type 0) (xs : List X) (end : ℕ) → length xs ≤ end → ((k : ℕ) (x : X) → k < end → slice_get xs k ≡ Some x → Q x)
    → (x : X) → Contains xs x → Q x
all_from_places Q xs end most all x h =
    let at = place-from_Contains xs x h in
    let lt : at.0 < end = omega (arith, slice_get_within xs at.0 x at.1) in
    all at.0 x lt at.1

-- lists of one length with the same elements are one list
pub same_lists : {X : Type 0} (xs ys : List X) → length xs ≡ length ys → ((k : ℕ) (x y : X) → slice_get xs k ≡ Some x → slice_get ys k ≡ Some y → x ≡ y) → xs ≡ ys
same_lists [] [] e h = refl
same_lists [] (y ∷ ys) e h = absurd (omega arith)
same_lists (x ∷ xs) [] e h = absurd (omega arith)
same_lists (x ∷ xs) (y ∷ ys) e h =
    ap (λ z. z ∷ xs) (h 0 x y refl refl) ∙ ap (λ zs. y ∷ zs) (same_lists xs ys (omega arith) (λ k a b at there. h (suc k) a b at there))

pub All-from_places : {X : Type 0} (Q : X → Type 0) (xs : List X) (end : ℕ) → length xs ≤ end → ((k : ℕ) (x : X) → k < end → slice_get xs k ≡ Some x → Q x) → All Q xs
All-from_places Q xs end most all k d lt = let less : k < end = omega arith in all k (get_or xs k d) less (slice_get-get_or xs k d lt)
