-- Names among others.
use Rattle.std.proofs.Common.{◌≡◌, ℕ, zero, suc, take, Bool, true, false, cond, eqb, List, [], ◌∷◌, map, ◌++◌, refl, ap, arith}
use Rattle.std.specs.Prelude.{bytes_eq, ◌||◌}
use Rattle.std.specs.List.{list_any}
use Rattle.std.proofs.lemmas.List.{map-append}
use Rattle.std.proofs.lemmas.Bool.Decides.{nat_tests}

pub list_any-map : {X Y : Type 0} (p : X → Bool) (f : Y → X) (ys : List Y) → list_any p (map f ys) ≡ list_any (λ y. p (f y)) ys
list_any-map p f [] = refl
list_any-map p f (y ∷ ys) = ap (λ b. p (f y) || b) (list_any-map p f ys)

eqb_turned : (a b : ℕ) → eqb a b ≡ eqb b a
eqb_turned a b = grind (arith, nat_tests)

pub bytes_eq_turned : (xs ys : List ℕ) → bytes_eq xs ys ≡ bytes_eq ys xs
bytes_eq_turned [] [] = refl
bytes_eq_turned [] (y ∷ ys) = refl
bytes_eq_turned (x ∷ xs) [] = refl
bytes_eq_turned (x ∷ xs) (y ∷ ys) = rw (eqb_turned x y, bytes_eq_turned xs ys) refl

or_cond : (a b : Bool) → cond a true b ≡ (b || a)
or_cond true true = refl
or_cond true false = refl
or_cond false true = refl
or_cond false false = refl

pub or_inserted : (name other : List ℕ) (b : Bool) → cond (bytes_eq name other) true b ≡ (b || bytes_eq other name)
or_inserted name other b = rw (bytes_eq_turned name other) (or_cond (bytes_eq other name) b)

pub kept_or_added : {A : Type 0} (f : A → List ℕ) (b : Bool) (xs : List A) (x : A) → map f (cond b xs (xs ++ x ∷ [])) ≡ cond b (map f xs) (map f xs ++ f x ∷ [])
kept_or_added f true xs x = refl
kept_or_added f false xs x = map-append f xs (x ∷ [])

pub any_turned : {X : Type 0} (f : X → List ℕ) (n : List ℕ) (xs : List X) → list_any (λ x. bytes_eq (f x) n) xs ≡ list_any (bytes_eq n) (map f xs)
any_turned f n [] = refl
any_turned f n (x ∷ xs) = rw (bytes_eq_turned (f x) n, any_turned f n xs) refl

pub take-map : {X Y : Type 0} (f : X → Y) (n : ℕ) (xs : List X) → take n (map f xs) ≡ map f (take n xs)
take-map f zero xs = refl
take-map f (suc n) [] = refl
take-map f (suc n) (x ∷ xs) = ap (λ ys. f x ∷ ys) (take-map f n xs)
