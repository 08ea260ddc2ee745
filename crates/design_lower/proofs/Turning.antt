-- Lists that are turned, and their last items.
use Rattle.std.proofs.Common.{◌≡◌, ◌-◌, ◌<◌, List, [], ◌∷◌, ◌++◌, reverse, length, All, refl, ap, sym, subst, arith}
use Rattle.std.proofs.lemmas.List.{get_or-reverse, length-reverse, reverse-append, reverse-reverse}
use Rattle.std.proofs.lemmas.List.Elements.{All-head}
use Rattle.design_core.proofs.Declaring.{All-front, All-rest}

pub reverse-twice : {X : Type 0} (xs : List X) → reverse (reverse xs) ≡ xs
reverse-twice xs = reverse-reverse xs

pub reverse-last : {X : Type 0} (xs : List X) (x : X) → reverse (xs ++ x ∷ []) ≡ x ∷ reverse xs
reverse-last xs x = reverse-append xs (x ∷ [])

pub All-reversed : {X : Type 0} (P : X → Type 0) (xs : List X) → All P xs → All P (reverse xs)
All-reversed P xs h k d lt =
    let less : k < length xs = omega (arith, lt, length-reverse xs) in
    subst P (sym (get_or-reverse xs k d less)) (h (length xs - 1 - k) d (omega (arith, less)))

pub All-last : {X : Type 0} (P : X → Type 0) (xs : List X) (x : X) → All P (xs ++ x ∷ []) → P x
All-last P xs x h = All-head P x [] (All-rest P xs (x ∷ []) h)

pub all-but-last : {X : Type 0} (P : X → Type 0) (xs : List X) (x : X) → All P (xs ++ x ∷ []) → All P xs
all-but-last P xs x h = All-front P xs (x ∷ []) h

pub none-left : {X : Type 0} (xs ys : List X) → length ys ≡ 0 → xs ≡ xs ++ reverse ys
none-left {X = X} xs [] h = by xs
  where
    by : (zs : List X) → zs ≡ zs ++ []
    by [] = refl
    by (z ∷ zs) = ap (λ (r : List X). z ∷ r) (by zs)
none-left xs (y ∷ ys) h = absurd (omega (arith, h))
