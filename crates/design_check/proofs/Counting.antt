-- Walks over lists: what all of its elements pass, and what is found.
use Rattle.std.proofs.Common.{◌≡◌, ℕ, ◌+◌, ◌≤◌, Bool, true, false, cond, ◌&&◌, ◌||◌, List, [], ◌∷◌, drop, length, Some, None, refl, ap, ◌∙◌}
use Rattle.std.specs.Prelude.{slice_get}
use Rattle.std.specs.List.{list_all, list_any, find}
use Rattle.std.proofs.lemmas.List.{drop_all, drop_more}
use Rattle.std.proofs.lemmas.Option.{slice_get_within, get_or_from_slice_get}

module _ {X : Type 0} (f : X → Bool) (xs : List X) (k : ℕ) (x : X) (at : slice_get xs k ≡ Some x) where
  split : drop k xs ≡ x ∷ drop (k + 1) xs
  split = drop_more xs k x (slice_get_within xs k x at) ∙ ap (λ (y : X). y ∷ drop (k + 1) xs) (get_or_from_slice_get xs k x x at)

  pub all-passed : f x ≡ true → list_all f (drop k xs) ≡ list_all f (drop (k + 1) xs)
  all-passed h = ap (λ (l : List X). list_all f l) split ∙ ap (λ (b : Bool). b && list_all f (drop (k + 1) xs)) h

  pub all-failed : f x ≡ false → list_all f (drop k xs) ≡ false
  all-failed h = ap (λ (l : List X). list_all f l) split ∙ ap (λ (b : Bool). b && list_all f (drop (k + 1) xs)) h

pub all-ended : {X : Type 0} (f : X → Bool) (xs : List X) (k : ℕ) → length xs ≤ k → list_all f (drop k xs) ≡ true
all-ended {X = X} f xs k h = ap (λ (l : List X). list_all f l) (drop_all k xs h)

-- what is found is there
pub found-any : {X : Type 0} (f : X → Bool) (xs : List X) (x : X) → find f xs ≡ Some x → list_any f xs ≡ true
found-any f [] x e = absurd cc
found-any f (y ∷ ys) x e = by (f y) refl e (λ g. found-any f ys x g)
  where
    by : (b : Bool) → f y ≡ b → cond b (Some y) (find f ys) ≡ Some x → (find f ys ≡ Some x → list_any f ys ≡ true) → list_any f (y ∷ ys) ≡ true
    by true h g rest = ap (λ (b : Bool). b || list_any f ys) h
    by false h g rest = ap (λ (b : Bool). b || list_any f ys) h ∙ rest g

pub found-none : {X : Type 0} (f : X → Bool) (xs : List X) → find f xs ≡ None → list_any f xs ≡ false
found-none f [] e = refl
found-none {X = X} f (y ∷ ys) e = by (f y) refl e (λ g. found-none f ys g)
  where
    by : (b : Bool) → f y ≡ b → cond b (Some y) (find f ys) ≡ None → (find f ys ≡ None → list_any f ys ≡ false) → list_any f (y ∷ ys) ≡ false
    by true h g rest = absurd cc
    by false h g rest = ap (λ (b : Bool). b || list_any f ys) h ∙ rest g
