-- Sums over lists.
use Rattle.std.proofs.Common.{◌≡◌, ◌⊎◌, inl, inr, ℕ, zero, suc, ◌+◌, ◌*◌, ◌≤◌, List, [], ◌∷◌, length, Some, refl, ap, subst, arith}
use Rattle.std.specs.Prelude.{slice_get}
use Rattle.std.specs.List.{enumerate_from, flat_map, sum_by}
use Rattle.std.proofs.lemmas.List.{length-append}
use Rattle.std.proofs.lemmas.List.Sums.{sum_by-cons}
use Rattle.design_core.proofs.Lists.{one_at}

-- a list without the element at a place
erase : {X : Type 0} → List X → ℕ → List X
erase [] k = []
erase (x ∷ xs) zero = xs
erase (x ∷ xs) (suc k) = x ∷ erase xs k

erase-sum : {X : Type 0} (f : X → ℕ) (xs : List X) (k : ℕ) (x : X) → slice_get xs k ≡ Some x → sum_by f xs ≡ f x + sum_by f (erase xs k)
unfolding erase
erase-sum f [] k x at = absurd cc
erase-sum {X = X} f (y ∷ xs) zero x at = let same : y ≡ x = cc in let e : f y ≡ f x = ap f same in omega (arith, sum_by-cons f y xs, e)
erase-sum f (y ∷ xs) (suc k) x at = omega (arith, sum_by-cons f y xs, sum_by-cons f y (erase xs k), erase-sum f xs k x at)

erase-keeps : {X : Type 0} (xs : List X) (k j : ℕ) (x : X) → slice_get xs j ≡ Some x → (j ≡ k → ⊥) → (l : ℕ) × (slice_get (erase xs k) l ≡ Some x)
unfolding erase
erase-keeps [] k j x at other = absurd cc
erase-keeps (y ∷ xs) zero zero x at other = absurd (other refl)
erase-keeps (y ∷ xs) zero (suc j) x at other = (j, at)
erase-keeps (y ∷ xs) (suc k) zero x at other = (0, at)
erase-keeps (y ∷ xs) (suc k) (suc j) x at other = let r = erase-keeps xs k j x at (λ e. other (ap suc e)) in (suc r.0, r.1)

-- Where no two stand for one element of another list, and none weighs more than what it stands for, the sum is at most that list's.
module _ {X Y : Type 0} (f : X → ℕ) (g : Y → ℕ) (StandsFor : X → Y → Type 0) where
  abbrev pub AreIn : List X → List Y → Type 0
  AreIn xs ys = (k : ℕ) (x : X) → slice_get xs k ≡ Some x → (f x ≡ 0) ⊎ ((j : ℕ) × (y : Y) × (slice_get ys j ≡ Some y) × StandsFor x y × (f x ≤ g y))

  abbrev pub AreApart : List X → Type 0
  AreApart xs = (k l : ℕ) (x z : X) (y : Y) → slice_get xs k ≡ Some x → slice_get xs l ≡ Some z → StandsFor x y → StandsFor z y → k ≡ l

  pub sum-within : (xs : List X) (ys : List Y) → AreIn xs ys → AreApart xs → sum_by f xs ≤ sum_by g ys
  sum-within [] ys is apart = omega arith
  sum-within (x ∷ xs) ys is apart = by (is 0 x refl) (λ zs h. sum-within xs zs h rest)
    where
      rest : AreApart xs
      rest k l a b y p q s t = let e : suc k ≡ suc l = apart (suc k) (suc l) a b y p q s t in omega (arith, e)

      by : (f x ≡ 0) ⊎ ((j : ℕ) × (y : Y) × (slice_get ys j ≡ Some y) × StandsFor x y × (f x ≤ g y)) → ((zs : List Y) → AreIn xs zs → sum_by f xs ≤ sum_by g zs) → sum_by f (x ∷ xs) ≤ sum_by g ys
      by (inl none) more = let le = more ys (λ k z at. is (suc k) z at) in omega (arith, none, sum_by-cons f x xs, le)
      by (inr h) more =
          let e = erase-sum g ys h.0 h.1 h.2 in
          let le = h.4 in
          let fits = more (erase ys h.0) others in
          omega (arith, e, le, fits, sum_by-cons f x xs)
        where
          others : AreIn xs (erase ys h.0)
          others k z at = elim (is (suc k) z at) as (λ _. (f z ≡ 0) ⊎ ((j : ℕ) × (y : Y) × (slice_get (erase ys h.0) j ≡ Some y) × StandsFor z y × (f z ≤ g y))) [
            | inl none ↦ inl none
            | inr r ↦
                let place = erase-keeps ys h.0 r.0 r.1 r.2 (λ e.
                let same : r.1 ≡ h.1 = one_at ys h.0 r.1 h.1 (subst (λ (n : ℕ). slice_get ys n ≡ Some r.1) e r.2) h.2 in
                let none : suc k ≡ 0 = apart (suc k) 0 z x h.1 at refl (subst (λ (y : Y). StandsFor z y) same r.3) h.3 in
                absurd (omega (arith, none))) in
                inr (place.0, r.1, place.1, r.3, r.4)
          ]

-- sums of parts that are at most a whole, element by element
pub sum-parts : {X : Type 0} (h g a s v c : X → ℕ) (xs : List X) → ((k : ℕ) (x : X) → slice_get xs k ≡ Some x → 3 * h x + g x + 2 * a x + 2 * s x + v x ≤ c x)
    → 3 * sum_by h xs + sum_by g xs + 2 * sum_by a xs + 2 * sum_by s xs + sum_by v xs ≤ sum_by c xs
sum-parts h g a s v c [] each = omega arith
sum-parts h g a s v c (x ∷ xs) each =
    omega (arith, each 0 x refl, sum-parts h g a s v c xs (λ k y at. each (suc k) y at), sum_by-cons h x xs, sum_by-cons g x xs, sum_by-cons a x xs, sum_by-cons s x xs, sum_by-cons v x xs, sum_by-cons c x xs)

-- sums of two lists, element by element
pub sum-beside : {X Y : Type 0} (f : X → ℕ) (g : Y → ℕ) (xs : List X) (ys : List Y) → length xs ≡ length ys
    → ((k : ℕ) (x : X) (y : Y) → slice_get xs k ≡ Some x → slice_get ys k ≡ Some y → f x ≤ g y) → sum_by f xs ≤ sum_by g ys
sum-beside f g [] ys e each = omega arith
sum-beside f g (x ∷ xs) [] e each = absurd (omega (arith, e))
sum-beside f g (x ∷ xs) (y ∷ ys) e each =
    omega (arith, each 0 x y refl refl, sum-beside f g xs ys (omega (arith, e)) (λ k a b p q. each (suc k) a b p q), sum_by-cons f x xs, sum_by-cons g y ys)

pub sum-alike : {X : Type 0} (f g : X → ℕ) (xs : List X) → ((x : X) → f x ≡ g x) → sum_by f xs ≡ sum_by g xs
sum-alike f g [] each = refl
sum-alike f g (x ∷ xs) each = omega (arith, each x, sum-alike f g xs each, sum_by-cons f x xs, sum_by-cons g x xs)

pub sum-most : {X : Type 0} (f g : X → ℕ) (xs : List X) → ((x : X) → f x ≤ g x) → sum_by f xs ≤ sum_by g xs
sum-most f g [] each = omega arith
sum-most f g (x ∷ xs) each = omega (arith, each x, sum-most f g xs each, sum_by-cons f x xs, sum_by-cons g x xs)

pub sum-twice : {X : Type 0} (f : X → ℕ) (xs : List X) → sum_by (λ x. 2 * f x) xs ≡ 2 * sum_by f xs
sum-twice f [] = omega arith
sum-twice f (x ∷ xs) = omega (arith, sum-twice f xs, sum_by-cons f x xs, sum_by-cons (λ y. 2 * f y) x xs)

-- the length of lists put one after the other
pub flat-long : {X Y : Type 0} (f : X → List Y) (xs : List X) → length (flat_map f xs) ≡ sum_by (λ x. length (f x)) xs
flat-long f [] = refl
flat-long f (x ∷ xs) = omega (arith, length-append (f x) (flat_map f xs), flat-long f xs, sum_by-cons (λ y. length (f y)) x xs)

pub enumerated-sum : {X : Type 0} (f : X → ℕ) (n : ℕ) (xs : List X) → sum_by (λ (p : ℕ × X). f p.1) (enumerate_from n xs) ≡ sum_by f xs
enumerated-sum f n [] = refl
enumerated-sum {X = X} f n (x ∷ xs) =
    omega (arith, enumerated-sum f (n + 1) xs, sum_by-cons f x xs, sum_by-cons (λ (p : ℕ × X). f p.1) (n, x) (enumerate_from (n + 1) xs))
