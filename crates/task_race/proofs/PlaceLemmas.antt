-- What stands at the places of a list.
use Rattle.std.proofs.Common.{◌≡◌, ℕ, zero, suc, ◌<◌, ◌⊎◌, inl, inr, List, [], ◌∷◌, ◌++◌, length, map, get_or, refl, ap, subst, ◌∙◌, arith}
use Rattle.std.specs.Prelude.{Some, All, Contains, slice_get}
use Rattle.std.proofs.lemmas.List.{get_or_default}
use Rattle.std.proofs.lemmas.Option.{get_or_from_slice_get, slice_get-get_or, slice_get_within}

-- something stands at each place within
pub stands_at : {X : Type 0} (xs : List X) (i : ℕ) → i < length xs → (x : X) × (slice_get xs i ≡ Some x)
stands_at [] i lt = absurd (omega (arith, lt))
stands_at (x ∷ xs) zero lt = (x, refl)
stands_at (x ∷ xs) (suc i) lt = stands_at xs i (omega (arith, lt))

-- what stands at a place is a member, and a member stands at a place
pub at_contains : {X : Type 0} (xs : List X) (i : ℕ) (x : X) → slice_get xs i ≡ Some x → Contains xs x
at_contains xs i x is = (i, slice_get_within xs i x is, get_or_from_slice_get xs i x x is)

pub contains_at : {X : Type 0} (xs : List X) (x : X) (c : Contains xs x) → slice_get xs c.0 ≡ Some x
contains_at xs x c = slice_get-get_or xs c.0 x c.1 ∙ ap Some c.2

-- the same of what is made of each element
pub at_map : {X Y : Type 0} (f : X → Y) (xs : List X) (i : ℕ) (x : X) → slice_get xs i ≡ Some x → slice_get (map f xs) i ≡ Some (f x)
at_map f [] i x is = cc
at_map f (y ∷ ys) zero x is = let same : y ≡ x = cc in ap (λ z. Some (f z)) same
at_map f (y ∷ ys) (suc i) x is = at_map f ys i x is

-- what holds of all holds of what stands at a place, and the other way round
pub all_at : {X : Type 0} (P : X → Type 0) (xs : List X) (i : ℕ) (x : X) → All P xs → slice_get xs i ≡ Some x → P x
all_at P xs i x all is = subst P (get_or_from_slice_get xs i x x is) (all i x (slice_get_within xs i x is))

pub each_of : {X : Type 0} (P : X → Type 0) (xs : List X) → ((i : ℕ) (x : X) → slice_get xs i ≡ Some x → P x) → All P xs
each_of {X} P xs h = λ i d lt. h i (get_or xs i d) (slice_get-get_or xs i (get_or xs i d) lt ∙ ap Some (get_or_default xs i (get_or xs i d) d lt))

-- a member is the first, or one of the rest
pub first_or_later : {X : Type 0} (y x : X) (xs : List X) → Contains (y ∷ xs) x → (y ≡ x) ⊎ Contains xs x
first_or_later y x xs (zero, lt, is) = inl is
first_or_later y x xs (suc k, lt, is) = inr (k, omega (arith, lt), is)

-- what stands in a list with one more stands in the list, or is that one
pub push_cases : {X : Type 0} (xs : List X) (x : X) (i : ℕ) (y : X) → slice_get (xs ++ x ∷ []) i ≡ Some y → (slice_get xs i ≡ Some y) ⊎ ((i ≡ length xs) × (x ≡ y))
push_cases [] x zero y is = let same : x ≡ y = cc in inr (refl, same)
push_cases [] x (suc i) y is = absurd (cc)
push_cases (z ∷ xs) x zero y is = inl is
push_cases (z ∷ xs) x (suc i) y is = elim (push_cases xs x i y is) [ inl old ↦ inl old | inr new ↦ inr (ap suc new.0, new.1) ]
