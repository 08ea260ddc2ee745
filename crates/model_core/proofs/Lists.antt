-- Lists by places, and lists put one after the other.
use Rattle.std.proofs.Common.{◌≡◌, ◌⊎◌, ℕ, zero, suc, ◌+◌, ◌<◌, List, [], ◌∷◌, ◌++◌, Some, None, refl, sym, ap, ◌∙◌, subst, inl, inr, arith, length, take, drop, append_assoc, get_or}
use Rattle.std.specs.Prelude.{slice_get, Contains, All}
use Rattle.std.specs.List.{flat_map}
use Rattle.std.proofs.lemmas.Bool.{cases_lt}
use Rattle.std.proofs.lemmas.Grind.{flat_map-append}
use Rattle.std.proofs.lemmas.List.{append-nil, take-append-drop}
use Rattle.std.proofs.lemmas.Option.{slice_get_within, slice_get-get_or, get_or_from_slice_get}

pub push-old : {A : Type 0} (xs : List A) (x y : A) (k : ℕ) → slice_get xs k ≡ Some y → slice_get (xs ++ x ∷ []) k ≡ Some y
push-old [] x y k h = cc
push-old (z ∷ xs) x y zero h = h
push-old (z ∷ xs) x y (suc k) h = push-old xs x y k h

pub push-new : {A : Type 0} (xs : List A) (x : A) → slice_get (xs ++ x ∷ []) (length xs) ≡ Some x
push-new [] x = refl
push-new (z ∷ xs) x = push-new xs x

pub push-either : {A : Type 0} (xs : List A) (x y : A) (k : ℕ) → slice_get (xs ++ x ∷ []) k ≡ Some y → (slice_get xs k ≡ Some y) ⊎ ((k ≡ length xs) × (y ≡ x))
push-either [] x y zero h = inr (refl, cc)
push-either [] x y (suc k) h = cc
push-either (z ∷ xs) x y zero h = inl h
push-either (z ∷ xs) x y (suc k) h =
    elim (push-either xs x y k h) as (λ _. (slice_get xs k ≡ Some y) ⊎ ((suc k ≡ suc (length xs)) × (y ≡ x))) [ inl p ↦ inl p | inr p ↦ inr (ap suc p.0, p.1) ]

pub length-push : {A : Type 0} (xs : List A) (x : A) → length (xs ++ x ∷ []) ≡ suc (length xs)
length-push [] x = refl
length-push (y ∷ xs) x = ap suc (length-push xs x)

pub app_left : {A : Type 0} (xs ys : List A) (k : ℕ) (y : A) → slice_get xs k ≡ Some y → slice_get (xs ++ ys) k ≡ Some y
app_left [] ys k y h = absurd (let z : None ≡ Some y = h in cc)
app_left (x ∷ xs) ys zero y h = h
app_left (x ∷ xs) ys (suc k) y h = app_left xs ys k y h

pub app_right : {A : Type 0} (xs ys : List A) (k n : ℕ) → n ≡ length xs + k → slice_get (xs ++ ys) n ≡ slice_get ys k
app_right [] ys k n e = let z : n ≡ k = omega arith in rw z refl
app_right (x ∷ xs) ys k zero e = absurd (omega arith)
app_right (x ∷ xs) ys k (suc n) e = app_right xs ys k n (omega arith)

pub app_cases : {A : Type 0} (xs ys : List A) (p : ℕ) (y : A) → slice_get (xs ++ ys) p ≡ Some y →
    (slice_get xs p ≡ Some y) ⊎ ((k : ℕ) × (p ≡ length xs + k) × (slice_get ys k ≡ Some y))
app_cases [] ys p y h = inr (p, omega arith, h)
app_cases (x ∷ xs) ys zero y h = inl h
app_cases (x ∷ xs) ys (suc p) y h =
    elim (app_cases xs ys p y h) as (λ _. (slice_get xs p ≡ Some y) ⊎ ((k : ℕ) × (suc p ≡ suc (length xs) + k) × (slice_get ys k ≡ Some y))) [
      | inl a ↦ inl a
      | inr a ↦ inr (a.0, (let e : p ≡ length xs + a.0 = a.1 in omega arith), a.2)
    ]

pub place_of_contained : {A : Type 0} (xs : List A) (x : A) → Contains xs x → (k : ℕ) × (slice_get xs k ≡ Some x)
place_of_contained xs x c = (c.0, slice_get-get_or xs c.0 x c.1 ∙ ap Some c.2)

pub contained_at : {A : Type 0} (xs : List A) (x : A) (k : ℕ) → slice_get xs k ≡ Some x → Contains xs x
contained_at xs x k e = (k, slice_get_within xs k x e, get_or_from_slice_get xs k x x e)

pub all_from : {A : Type 0} (P : A → Type 0) (xs : List A) → ((k : ℕ) (x : A) → slice_get xs k ≡ Some x → P x) → All P xs
all_from P xs h k x l = h k (get_or xs k x) (slice_get-get_or xs k x l)

pub all_at : {A : Type 0} (P : A → Type 0) (xs : List A) (k : ℕ) (x : A) → All P xs → slice_get xs k ≡ Some x → P x
all_at P xs k x h e = subst P (get_or_from_slice_get xs k x x e) (h k x (slice_get_within xs k x e))

pub at_place : {A : Type 0} (xs : List A) (k : ℕ) → k < length xs → (x : A) × (slice_get xs k ≡ Some x)
at_place [] k h = absurd (omega arith)
at_place (x ∷ xs) zero h = (x, refl)
at_place (x ∷ xs) (suc k) h = at_place xs k (omega arith)

pub nothing_at : {A : Type 0} (k : ℕ) (x : A) → slice_get (let xs : List A = [] in xs) k ≡ Some x → ⊥
nothing_at k x h = let z : None ≡ Some x = h in cc

pub below_or_last : (k t : ℕ) → k < t + 1 → (k < t) ⊎ (k ≡ t)
below_or_last k t h = elim (cases_lt k t) as (λ _. (k < t) ⊎ (k ≡ t)) [ inl p ↦ inl p | inr q ↦ inr (omega arith) ]

-- what is taken up to an element, and what stands from it on
pub flat_more : {A B : Type 0} (f : A → List B) (xs : List A) (i : ℕ) (x : A) → slice_get xs i ≡ Some x → flat_map f (take (suc i) xs) ≡ flat_map f (take i xs) ++ f x
flat_more f [] i x h = absurd (let z : None ≡ Some x = h in cc)
flat_more f (z ∷ xs) zero x h = let same : z ≡ x = cc in append-nil (f z) ∙ ap f same
flat_more {B = B} f (z ∷ xs) (suc i) x h = ap (λ (ys : List B). f z ++ ys) (flat_more f xs i x h) ∙ sym (append_assoc (f z) (flat_map f (take i xs)) (f x))

pub flat_rest : {A B : Type 0} (f : A → List B) (xs : List A) (i : ℕ) → flat_map f xs ≡ flat_map f (take i xs) ++ flat_map f (drop i xs)
flat_rest f xs i = ap (flat_map f) (sym (take-append-drop i xs)) ∙ flat_map-append f (take i xs) (drop i xs)

pub drop_at : {A : Type 0} (xs : List A) (i : ℕ) (x : A) → slice_get xs i ≡ Some x → drop i xs ≡ x ∷ drop (suc i) xs
drop_at [] i x h = absurd (let z : None ≡ Some x = h in cc)
drop_at {A = A} (y ∷ xs) zero x h = let same : y ≡ x = cc in ap (λ (z : A). z ∷ xs) same
drop_at (y ∷ xs) (suc i) x h = drop_at xs i x h

pub contains_left : {A : Type 0} (xs ys : List A) (x : A) → Contains xs x → Contains (xs ++ ys) x
contains_left xs ys x h = let p = place_of_contained xs x h in contained_at (xs ++ ys) x p.0 (app_left xs ys p.0 x p.1)

pub contains_right : {A : Type 0} (xs ys : List A) (x : A) → Contains ys x → Contains (xs ++ ys) x
contains_right xs ys x h = let p = place_of_contained ys x h in contained_at (xs ++ ys) x (length xs + p.0) (app_right xs ys p.0 (length xs + p.0) refl ∙ p.1)

pub contains_either : {A : Type 0} (xs ys : List A) (x : A) → Contains (xs ++ ys) x → Contains xs x ⊎ Contains ys x
contains_either xs ys x h =
    let p = place_of_contained (xs ++ ys) x h in
    elim (app_cases xs ys p.0 x p.1) as (λ _. Contains xs x ⊎ Contains ys x) [
      | inl a ↦ inl (contained_at xs x p.0 a)
      | inr a ↦ inr (contained_at ys x a.0 a.2)
    ]

-- two lists of one length, each after or before the others
pub same_parts : {A : Type 0} (xs ys us vs : List A) → length xs ≡ length us → xs ++ ys ≡ us ++ vs → (xs ≡ us) × (ys ≡ vs)
same_parts [] ys [] vs l e = (refl, e)
same_parts [] ys (u ∷ us) vs l e = absurd (omega arith)
same_parts (x ∷ xs) ys [] vs l e = absurd (omega arith)
same_parts {A = A} (x ∷ xs) ys (u ∷ us) vs l e =
    let head : x ≡ u = cc in
    let tail : xs ++ ys ≡ us ++ vs = cc in
    let r = same_parts xs ys us vs (omega arith) tail in
    (let q = r.0 in cc, r.1)
