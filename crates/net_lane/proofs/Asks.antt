-- Three words after the first.
use Rattle.std.proofs.Common.{◌≡◌, ℕ, ◌<◌, ◌≤◌, List, [], ◌∷◌, length, get_or, map, sym, ◌∙◌, ap, subst, arith}
use Rattle.std.specs.Prelude.{Option, Some, None, IfSome, codes, decimal}
use Rattle.sby_terms.specs.Address.{IsAddress}
use Rattle.net_lane.specs.Words.{AsksNet, AsksOf}

pub three : {X : Type 0} (xs : List X) (a b c : X) → 3 ≤ length xs → length xs < 4 → a ≡ get_or xs 0 a → b ≡ get_or xs 1 b → c ≡ get_or xs 2 c → xs ≡ a ∷ b ∷ c ∷ []
three [] a b c low high e f g = absurd (omega arith)
three (x ∷ []) a b c low high e f g = absurd (omega arith)
three (x ∷ y ∷ []) a b c low high e f g = absurd (omega arith)
three (x ∷ y ∷ z ∷ []) a b c low high e f g = cc
three (x ∷ y ∷ z ∷ w ∷ ws) a b c low high e f g = absurd (omega arith)

pub asks_within : {X : Type 0} (f : X → List ℕ) (xs : List X) (a b c : X) (n : ℕ) → xs ≡ a ∷ b ∷ c ∷ [] → f b ≡ codes "--conflicts" → f c ≡ decimal n → map f xs ≡ f a ∷ codes "--conflicts" ∷ decimal n ∷ []
asks_within f xs a b c n e h k = let w = ap (map f) e in cc

third : (x y z : List ℕ) (u v w : List ℕ) (xs : List (List ℕ)) → xs ≡ x ∷ y ∷ z ∷ [] → xs ≡ u ∷ v ∷ w ∷ [] → z ≡ w
third x y z u v w xs e f = cc

pub asks_not : {X : Type 0} (f : X → List ℕ) (xs : List X) (a b c : X) → xs ≡ a ∷ b ∷ c ∷ [] → ((n : ℕ) → f c ≡ decimal n → 1 ≤ n → n ≤ 1000000000 → ⊥) → (address : List ℕ) (conflicts : Option ℕ) → AsksOf (map f xs) address conflicts → ⊥
asks_not f xs a b c e h address None w = let k = ap length (sym (ap (map f) e) ∙ w) in absurd (omega (arith, k))
asks_not f xs a b c e h address (Some n) w = h n (third (f a) (f b) (f c) address (codes "--conflicts") (decimal n) (map f xs) (ap (map f) e) w.0) w.1 w.2

first_word : (a b : List ℕ) (us vs xs : List (List ℕ)) → xs ≡ a ∷ us → xs ≡ b ∷ vs → a ≡ b
first_word a b us vs xs e f = cc

starts_with : (words : List (List ℕ)) (address : List ℕ) (conflicts : Option ℕ) → AsksOf words address conflicts → (rest : List (List ℕ)) × (words ≡ address ∷ rest)
starts_with words address None w = ([], w)
starts_with words address (Some n) w = (codes "--conflicts" ∷ decimal n ∷ [], w.0)

-- words whose address is none ask for nothing
pub no_address : (words : List (List ℕ)) (a : List ℕ) (c : Option ℕ) → AsksOf words a c → (IsAddress a → ⊥) → (b : List ℕ) (d : Option ℕ) → AsksOf words b d → IsAddress b → ⊥
no_address words a c w h b d v is =
    let s = starts_with words a c w in
    let t = starts_with words b d v in
    h (subst IsAddress (first_word b a t.0 s.0 words t.1 s.1) is)

pub asks_some : {W : Type 0} (result : Option W) (address : W → List ℕ) (conflicts : W → Option ℕ) (words rest : List (List ℕ)) (engine : List ℕ) → words ≡ engine ∷ rest
    → IfSome result (λ w. (engine ≡ codes "net") × AsksOf rest (address w) (conflicts w) × IsAddress (address w)) → IfSome result (λ w. AsksNet words (address w) (conflicts w))
asks_some None address conflicts words rest engine e h = tt
asks_some (Some w) address conflicts words rest engine e h = (rest, e ∙ ap (λ (x : List ℕ). x ∷ rest) h.0, h.1, h.2)
