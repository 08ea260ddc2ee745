-- Walks over lists: what all pass, and items with numbers of their own.
use Rattle.std.proofs.Common.{◌≡◌, ℕ, zero, suc, ◌+◌, Bool, true, false, not, ◌&&◌, ◌||◌, eqb, List, [], ◌∷◌, ◌++◌, take, map, Some, refl, ap, sym, ◌∙◌}
use Rattle.std.specs.Prelude.{slice_get}
use Rattle.std.specs.List.{list_any, list_all}
use Rattle.std.proofs.lemmas.List.{take_more}
use Rattle.std.proofs.lemmas.Option.{slice_get_within, get_or_from_slice_get}
use Rattle.design_core.specs.Ports.{are_distinct}

both : (a b : Bool) → (a && b) ≡ true → (a ≡ true) × (b ≡ true)
both true true h = (refl, refl)
both true false h = absurd cc
both false b h = absurd cc

neither : (a b : Bool) → (a || b) ≡ false → (a ≡ false) × (b ≡ false)
neither false false h = (refl, refl)
neither false true h = absurd cc
neither true b h = absurd cc

not-true : (b : Bool) → not b ≡ true → b ≡ false
not-true true h = absurd cc
not-true false h = refl

pub all-at : {X : Type 0} (test : X → Bool) (xs : List X) (k : ℕ) (x : X) → list_all test xs ≡ true → slice_get xs k ≡ Some x → test x ≡ true
all-at test [] k x h at = cc
all-at test (y ∷ xs) zero x h at = let same : y ≡ x = cc in ap test (sym same) ∙ (both (test y) (list_all test xs) h).0
all-at test (y ∷ xs) (suc k) x h at = all-at test xs k x (both (test y) (list_all test xs) h).1 at

none-at : {X : Type 0} (test : X → Bool) (xs : List X) (k : ℕ) (x : X) → list_any test xs ≡ false → slice_get xs k ≡ Some x → test x ≡ false
none-at test [] k x h at = cc
none-at test (y ∷ xs) zero x h at = let same : y ≡ x = cc in ap test (sym same) ∙ (neither (test y) (list_any test xs) h).0
none-at test (y ∷ xs) (suc k) x h at = none-at test xs k x (neither (test y) (list_any test xs) h).1 at

-- no item before a place has the number of the one there
pub distinct-take : {X : Type 0} (number : X → ℕ) (xs : List X) (k : ℕ) (y : X) → are_distinct number xs ≡ true → slice_get xs k ≡ Some y
    → list_any (λ x. eqb (number x) (number y)) (take k xs) ≡ false
distinct-take number [] k y h at = cc
distinct-take number (x ∷ xs) zero y h at = refl
distinct-take number (x ∷ xs) (suc k) y h at =
    let parts = both (not (list_any (λ z. eqb (number x) (number z)) xs)) (are_distinct number xs) h in
    let first : eqb (number x) (number y) ≡ false = none-at (λ z. eqb (number x) (number z)) xs k y (not-true (list_any (λ z. eqb (number x) (number z)) xs) parts.0) at in
    ap (λ (b : Bool). b || list_any (λ z. eqb (number z) (number y)) (take k xs)) first ∙ distinct-take number xs k y parts.1 at

-- one item more of those in front
pub take-next : {X : Type 0} (xs : List X) (k : ℕ) (x : X) → slice_get xs k ≡ Some x → take (k + 1) xs ≡ take k xs ++ x ∷ []
take-next {X = X} xs k x at = take_more xs k x (slice_get_within xs k x at) ∙ ap (λ (y : X). take k xs ++ y ∷ []) (get_or_from_slice_get xs k x x at)

pub map-push : {X Y : Type 0} (f : X → Y) (xs : List X) (x : X) → map f (xs ++ x ∷ []) ≡ map f xs ++ f x ∷ []
map-push f [] x = refl
map-push {Y = Y} f (y ∷ xs) x = ap (λ (l : List Y). f y ∷ l) (map-push f xs x)
