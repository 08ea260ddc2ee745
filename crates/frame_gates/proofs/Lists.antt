-- Lists by places.
use Rattle.std.proofs.Common.{◌≡◌, ℕ, zero, suc, ◌+◌, ◌≤◌, List, [], ◌∷◌, ◌++◌, map, Some, None, refl, sym, ap, ◌∙◌, subst, inl, inr, arith, length, take, append_assoc, get_or}
use Rattle.std.specs.Prelude.{slice_get, Contains, All}
use Rattle.std.specs.List.{flat_map}
use Rattle.std.proofs.lemmas.Option.{slice_get_within, get_or_from_slice_get}
use Rattle.std.proofs.lemmas.List.Elements.{Contains-append_left, Contains-append_right, Contains-append_cases}
use Rattle.model_core.specs.Shape.{IsDistinct}
use Rattle.model_core.proofs.Lists.{all_at, all_from, app_left, app_right, contained_at, place_of_contained}

pub all_of : {A : Type 0} (P : A → Type 0) (xs : List A) → ((x : A) → Contains xs x → P x) → All P xs
all_of P xs h = all_from P xs (λ k x e. h x (contained_at xs x k e))

pub all_contained : {A : Type 0} (P : A → Type 0) (xs : List A) (x : A) → All P xs → Contains xs x → P x
all_contained P xs x h c = let at = place_of_contained xs x c in all_at P xs at.0 x h at.1

pub one_at : {A : Type 0} (xs : List A) (k : ℕ) (x y : A) → slice_get xs k ≡ Some x → slice_get xs k ≡ Some y → x ≡ y
one_at xs k x y p q = cc

-- the first n elements, one more
pub take_step : {A : Type 0} (xs : List A) (i : ℕ) (x : A) → slice_get xs i ≡ Some x → take (suc i) xs ≡ take i xs ++ x ∷ []
take_step [] i x h = absurd (let z : None ≡ Some x = h in cc)
take_step (z ∷ xs) zero x h = let same : z ≡ x = cc in ap (λ (y : _). y ∷ []) same
take_step (z ∷ xs) (suc i) x h = ap (λ (ys : List _). z ∷ ys) (take_step xs i x h)

-- the lists of the elements before place i, of that at i, and of those after it
pub flat_split : {A B : Type 0} (f : A → List B) (xs : List A) (i : ℕ) (x : A) → slice_get xs i ≡ Some x → (rest : List B) × (flat_map f xs ≡ flat_map f (take i xs) ++ (f x ++ rest))
flat_split f [] i x h = absurd (let z : None ≡ Some x = h in cc)
flat_split {A} {B} f (z ∷ xs) zero x h = let same : z ≡ x = cc in (flat_map f xs, ap (λ (y : A). f y ++ flat_map f xs) same)
flat_split {A} {B} f (z ∷ xs) (suc i) x h =
    let r = flat_split f xs i x h in
    (r.0, ap (λ (ys : List B). f z ++ ys) r.1 ∙ sym (append_assoc (f z) (flat_map f (take i xs)) (f x ++ r.0)))

pub flat_contained : {A B : Type 0} (f : A → List B) (xs : List A) (i : ℕ) (x : A) (y : B) → slice_get xs i ≡ Some x → Contains (f x) y → Contains (flat_map f xs) y
flat_contained {A} {B} f xs i x y e c =
    let r = flat_split f xs i x e in
    subst (λ (ys : List B). Contains ys y) (sym r.1) (Contains-append_right (flat_map f (take i xs)) (f x ++ r.0) y (Contains-append_left (f x) r.0 y c))

-- what is among the first is among more of the first
pub flat_front : {A B : Type 0} (f : A → List B) (xs : List A) (i j : ℕ) (y : B) → i ≤ j → Contains (flat_map f (take i xs)) y → Contains (flat_map f (take j xs)) y
flat_front f [] zero zero y h c = c
flat_front f [] zero (suc j) y h c = c
flat_front f [] (suc i) zero y h c = c
flat_front f [] (suc i) (suc j) y h c = c
flat_front f (x ∷ xs) zero j y h c = absurd (let l = c.1 in omega arith)
flat_front f (x ∷ xs) (suc i) zero y h c = absurd (omega arith)
flat_front f (x ∷ xs) (suc i) (suc j) y h c =
    elim (Contains-append_cases (f x) (flat_map f (take i xs)) y c) as (λ _. Contains (f x ++ flat_map f (take j xs)) y) [
      | inl a ↦ Contains-append_left (f x) (flat_map f (take j xs)) y a
      | inr a ↦ Contains-append_right (f x) (flat_map f (take j xs)) y (flat_front f xs i j y (omega arith) a)
    ]

-- lists in which nothing stands twice
pub distinct_left : (xs ys : List ℕ) → IsDistinct (xs ++ ys) → IsDistinct xs
distinct_left xs ys d i j p ei ej = d i j p (app_left xs ys i p ei) (app_left xs ys j p ej)

pub distinct_right : (xs ys : List ℕ) → IsDistinct (xs ++ ys) → IsDistinct ys
distinct_right xs ys d i j p ei ej =
    let e = d (length xs + i) (length xs + j) p (app_right xs ys i (length xs + i) refl ∙ ei) (app_right xs ys j (length xs + j) refl ∙ ej) in
    omega arith

pub distinct_apart : (xs ys : List ℕ) (p : ℕ) → IsDistinct (xs ++ ys) → Contains xs p → Contains ys p → ⊥
distinct_apart xs ys p d a b =
    let i = place_of_contained xs p a in
    let j = place_of_contained ys p b in
    let e = d i.0 (length xs + j.0) p (app_left xs ys i.0 p i.1) (app_right xs ys j.0 (length xs + j.0) refl ∙ j.1) in
    let l = slice_get_within xs i.0 p i.1 in
    omega arith

-- maps
pub map_at : {A B : Type 0} (f : A → B) (xs : List A) (k : ℕ) (x : A) → slice_get xs k ≡ Some x → slice_get (map f xs) k ≡ Some (f x)
map_at f [] k x h = absurd (let z : None ≡ Some x = h in cc)
map_at f (z ∷ xs) zero x h = let same : z ≡ x = cc in ap (λ (y : _). Some (f y)) same
map_at f (z ∷ xs) (suc k) x h = map_at f xs k x h

pub length_map : {A B : Type 0} (f : A → B) (xs : List A) → length (map f xs) ≡ length xs
length_map f [] = refl
length_map f (x ∷ xs) = ap suc (length_map f xs)

pub map_map : {A B C : Type 0} (f : B → C) (g : A → B) (xs : List A) → map f (map g xs) ≡ map (λ x. f (g x)) xs
map_map f g [] = refl
map_map {A} {B} {C} f g (x ∷ xs) = ap (λ (ys : List C). f (g x) ∷ ys) (map_map f g xs)

pub map_same : {A B : Type 0} (f g : A → B) (xs : List A) → ((x : A) → Contains xs x → f x ≡ g x) → map f xs ≡ map g xs
map_same f g [] h = refl
map_same {A} {B} f g (x ∷ xs) h =
    let e : f x ≡ g x = h x (0, (omega arith), refl) in
    let r = map_same f g xs (λ y c. h y (Contains-append_right (x ∷ []) xs y c)) in
    ap (λ (y : B). y ∷ map f xs) e ∙ ap (λ (ys : List B). g x ∷ ys) r

-- equal maps are equal at each element
pub map_each : {A B : Type 0} (f g : A → B) (xs : List A) (x : A) → map f xs ≡ map g xs → Contains xs x → f x ≡ g x
map_each f g xs x e c =
    let at = place_of_contained xs x c in
    let a = map_at f xs at.0 x at.1 in
    let b = map_at g xs at.0 x at.1 in
    let s : slice_get (map g xs) at.0 ≡ Some (f x) = subst (λ (ys : List _). slice_get ys at.0 ≡ Some (f x)) e a in
    one_at (map g xs) at.0 (f x) (g x) s b

pub get_at : {A : Type 0} (xs : List A) (k : ℕ) (x d : A) → slice_get xs k ≡ Some x → get_or xs k d ≡ x
get_at xs k x d e = get_or_from_slice_get xs k x d e

-- by places, equal lists
pub same_list : {A B : Type 0} (f : A → B) (xs : List A) (ys : List B) → length xs ≡ length ys → ((k : ℕ) (x : A) (y : B) → slice_get xs k ≡ Some x → slice_get ys k ≡ Some y → f x ≡ y) → map f xs ≡ ys
same_list f [] [] n h = refl
same_list f [] (y ∷ ys) n h = absurd (omega arith)
same_list f (x ∷ xs) [] n h = absurd (omega arith)
same_list {A} {B} f (x ∷ xs) (y ∷ ys) n h =
    let e = h 0 x y refl refl in
    let r = same_list f xs ys (omega arith) (λ k. h (suc k)) in
    ap (λ (z : B). z ∷ map f xs) e ∙ ap (λ (zs : List B). y ∷ zs) r

-- what was written to a slice of the whole list
pub take_front : {A : Type 0} (xs ys : List A) (n : ℕ) → n ≡ length xs → take n (xs ++ ys) ≡ xs
take_front [] ys zero e = refl
take_front [] ys (suc n) e = absurd (omega arith)
take_front (x ∷ xs) ys zero e = absurd (omega arith)
take_front (x ∷ xs) ys (suc n) e = ap (λ (zs : List _). x ∷ zs) (take_front xs ys n (omega arith))
