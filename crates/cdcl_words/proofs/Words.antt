-- Three words.
use Rattle.std.proofs.Common.{◌≡◌, ℕ, ◌<◌, ◌≤◌, List, [], ◌∷◌, length, get_or, map, sym, ◌∙◌, ap, arith}
use Rattle.std.specs.Prelude.{Bool, true, false, Option, Some, None, codes, decimal}
use Rattle.cdcl_words.specs.Asking.{Asks, AsksPlainly}

pub three : {X : Type 0} (xs : List X) (a b c : X) → 3 ≤ length xs → length xs < 4 → a ≡ get_or xs 0 a → b ≡ get_or xs 1 b → c ≡ get_or xs 2 c → xs ≡ a ∷ b ∷ c ∷ []
three [] a b c low high e f g = absurd (omega arith)
three (x ∷ []) a b c low high e f g = absurd (omega arith)
three (x ∷ y ∷ []) a b c low high e f g = absurd (omega arith)
three (x ∷ y ∷ z ∷ []) a b c low high e f g = cc
three (x ∷ y ∷ z ∷ w ∷ ws) a b c low high e f g = absurd (omega arith)

pub asks_within : {X : Type 0} (f : X → List ℕ) (xs : List X) (a b c : X) (n : ℕ) → xs ≡ a ∷ b ∷ c ∷ [] → f a ≡ codes "--conflicts" → f b ≡ decimal n → map f xs ≡ codes "--conflicts" ∷ decimal n ∷ f c ∷ []
asks_within f xs a b c n e h k = let w = ap (map f) e in cc

second : (x y z : List ℕ) (u v w : List ℕ) (xs : List (List ℕ)) → xs ≡ x ∷ y ∷ z ∷ [] → xs ≡ u ∷ v ∷ w ∷ [] → y ≡ v
second x y z u v w xs e f = cc

pub asks_not : {X : Type 0} (f : X → List ℕ) (xs : List X) (a b c : X) → xs ≡ a ∷ b ∷ c ∷ [] → ((n : ℕ) → f b ≡ decimal n → 1 ≤ n → n ≤ 1000000000 → ⊥) → (conflicts : Option ℕ) (file : List ℕ) → AsksPlainly (map f xs) conflicts file → ⊥
asks_not f xs a b c e h None file w = let k = ap length (sym (ap (map f) e) ∙ w) in absurd (omega (arith, k))
asks_not f xs a b c e h (Some n) file w = h n (second (f a) (f b) (f c) (codes "--conflicts") (decimal n) file (map f xs) (ap (map f) e) w.0) w.1 w.2

-- words that ask for nothing, with hints or without
pub asks_neither : (words : List (List ℕ)) → ((c : Option ℕ) (file : List ℕ) → AsksPlainly words c file → ⊥) → ((rest : List (List ℕ)) → words ≡ codes "--hints" ∷ rest → (c : Option ℕ) (file : List ℕ) → AsksPlainly rest c file → ⊥)
    → (hinted : Bool) (c : Option ℕ) (file : List ℕ) → Asks words hinted c file → ⊥
asks_neither words n h false c file a = n c file a
asks_neither words n h true c file a = h a.0 a.1 c file a.2

four : {X : Type 0} (xs : List X) (a b c d : X) → 4 ≤ length xs → length xs < 5 → a ≡ get_or xs 0 a → b ≡ get_or xs 1 b → c ≡ get_or xs 2 c → d ≡ get_or xs 3 d → xs ≡ a ∷ b ∷ c ∷ d ∷ []
four [] a b c d low high e f g h = absurd (omega (arith, low))
four (x ∷ []) a b c d low high e f g h = absurd (omega (arith, low))
four (x ∷ y ∷ []) a b c d low high e f g h = absurd (omega (arith, low))
four (x ∷ y ∷ z ∷ []) a b c d low high e f g h = absurd (omega (arith, low))
four (x ∷ y ∷ z ∷ w ∷ []) a b c d low high e f g h = cc
four (x ∷ y ∷ z ∷ w ∷ v ∷ vs) a b c d low high e f g h = absurd (omega (arith, high))

pub four_words : {X : Type 0} (f : X → List ℕ) (xs : List X) (a b c d : X) (u v : List ℕ) → 4 ≤ length xs → length xs < 5 → a ≡ get_or xs 0 a → b ≡ get_or xs 1 b → c ≡ get_or xs 2 c → d ≡ get_or xs 3 d → f a ≡ u → f c ≡ v → map f xs ≡ u ∷ f b ∷ v ∷ f d ∷ []
four_words f xs a b c d u v low high e1 e2 e3 e4 p q = let w = ap (map f) (four xs a b c d low high e1 e2 e3 e4) in cc
