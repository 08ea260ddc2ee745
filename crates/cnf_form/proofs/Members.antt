-- What lists of clauses contain.
use Rattle.std.proofs.Common.{◌≡◌, ℕ, ◌<◌, ◌+◌, length, take, get_or, sym, ap, ◌∙◌, List, [], ◌∷◌, ◌++◌, map, subst, inl, inr, ◌⊎◌, arith}
use Rattle.std.specs.Prelude.{Contains}
use Rattle.std.proofs.lemmas.List.{take_more}
use Rattle.std.proofs.lemmas.List.Elements.{Contains-append_cases, Contains-append_left, Contains-append_right, Contains-push, Contains-push_cases}

pub Contains-empty : {X : Type 0} (x : X) → Contains [] x → ⊥
Contains-empty x h = omega (arith, h.1)

pub Contains-head : {X : Type 0} (x : X) (xs : List X) → Contains (x ∷ xs) x
Contains-head x xs = Contains-append_left (x ∷ []) xs x (Contains-push [] x)

pub Contains-tail : {X : Type 0} (y x : X) (xs : List X) → Contains xs x → Contains (y ∷ xs) x
Contains-tail y x xs h = Contains-append_right (y ∷ []) xs x h

pub Contains-one : {X : Type 0} (y x : X) → Contains (y ∷ []) x → y ≡ x
Contains-one y x h = elim (Contains-push_cases [] y x h) [ inl h ↦ absurd (Contains-empty x h) | inr e ↦ e ]

pub Contains-cases : {X : Type 0} (y x : X) (xs : List X) → Contains (y ∷ xs) x → (y ≡ x) ⊎ Contains xs x
Contains-cases y x xs h = elim (Contains-append_cases (y ∷ []) xs x h) [ inl h ↦ inl (Contains-one y x h) | inr h ↦ inr h ]

pub Contains-map : {X Y : Type 0} (f : X → Y) (x : X) (xs : List X) → Contains xs x → Contains (map f xs) (f x)
Contains-map f x [] h = absurd (Contains-empty x h)
Contains-map f x (y ∷ xs) h =
    elim (Contains-cases y x xs h) [
      | inl e ↦ subst (λ z. Contains (f y ∷ map f xs) (f z)) e (Contains-head (f y) (map f xs))
      | inr h ↦ Contains-tail (f y) (f x) (map f xs) (Contains-map f x xs h)
    ]

pub Contains-map_from : {X Y : Type 0} (f : X → Y) (y : Y) (xs : List X) → Contains (map f xs) y → (x : X) × Contains xs x × (f x ≡ y)
Contains-map_from f y [] h = absurd (Contains-empty y h)
Contains-map_from f y (x ∷ xs) h =
    elim (Contains-cases (f x) y (map f xs) h) [
      | inl e ↦ (x, Contains-head x xs, e)
      | inr h ↦ let w = Contains-map_from f y xs h in (w.0, Contains-tail x w.0 xs w.1, w.2)
    ]

-- one more element of the front, as a loop reads it
pub take_one_more : {X : Type 0} (xs : List X) (i : ℕ) (x : X) → i < length xs → x ≡ get_or xs i x → take (i + 1) xs ≡ take i xs ++ x ∷ []
take_one_more xs i x h e = take_more xs i x h ∙ ap (λ y. take i xs ++ y ∷ []) (sym e)

pub Contains-read : {X : Type 0} (xs : List X) (i : ℕ) (x : X) → i < length xs → x ≡ get_or xs i x → Contains xs x
Contains-read xs i x h e = (i, h, sym e)
