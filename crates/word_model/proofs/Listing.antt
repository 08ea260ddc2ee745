-- Lists that grow by one item in each turn of a loop.
use Rattle.std.proofs.Common.{◌≡◌, inl, inr, ℕ, zero, suc, ◌+◌, ◌<◌, ◌≤◌, Bool, true, false, cond, List, [], ◌∷◌, ◌++◌, take, length, map, get_or, Option, Some, append_assoc, refl, ap, sym, subst, ◌∙◌, arith}
use Rattle.std.specs.Prelude.{slice_get}
use Rattle.std.specs.List.{filter, flat_map, enumerate_from, sum_by}
use Rattle.std.proofs.lemmas.Bool.{cases_lt}
use Rattle.std.proofs.lemmas.List.{append-nil, length-append, map-append, take_more}
use Rattle.std.proofs.lemmas.List.Elements.{filter-append}
use Rattle.design_core.specs.Places.{place_of}
use Rattle.design_core.specs.Shape.{DesignOf}
use Rattle.design_signals.specs.declared.sig_bit.SigBit.{SigBit}
use Rattle.design_core.specs.Shape.{ConnectOf}
use Rattle.model_core.proofs.Lists.{app_left, app_right}
use Rattle.word_model.specs.Built.{pair_places, sides}
use Rattle.std.proofs.lemmas.Option.{slice_get_within, get_or_from_slice_get}

pub item-next : {Y Z : Type 0} (h : Y → Z) (items : List Z) (item : Z) (left : List Y) (x : Y) (xs : List Y) (total : List Z) → item ≡ h x → left ≡ x ∷ xs
    → items ++ map h left ≡ total → (items ++ item ∷ []) ++ map h xs ≡ total
item-next {Y = Y} {Z = Z} h items item left x xs total e f before =
    append_assoc items (item ∷ []) (map h xs)
    ∙ (ap (λ (z : Z). items ++ (z ∷ map h xs)) e ∙ (ap (λ (l : List Y). items ++ map h l) (sym f) ∙ before))

pub items-end : {Y Z : Type 0} (h : Y → Z) (items : List Z) (left : List Y) (total : List Z) → left ≡ [] → items ++ map h left ≡ total → items ≡ total
items-end {Y = Y} h items left total e before = sym (append-nil items) ∙ (ap (λ (l : List Y). items ++ map h l) (sym e) ∙ before)

-- the first N elements, and the next
pub take-next : {X : Type 0} (xs : List X) (k : ℕ) (x : X) → slice_get xs k ≡ Some x → take (k + 1) xs ≡ take k xs ++ x ∷ []
take-next {X = X} xs k x at =
    take_more xs k x (slice_get_within xs k x at) ∙ ap (λ (y : X). take k xs ++ y ∷ []) (get_or_from_slice_get xs k x x at)

pub map-next : {X Y : Type 0} (f : X → Y) (xs : List X) (k : ℕ) (x : X) (items : List Y) (item : Y) → slice_get xs k ≡ Some x → item ≡ f x → items ≡ map f (take k xs)
    → items ++ item ∷ [] ≡ map f (take (k + 1) xs)
map-next {X = X} {Y = Y} f xs k x items item at e before =
    ap (λ (l : List Y). l ++ item ∷ []) before
    ∙ (ap (λ (y : Y). map f (take k xs) ++ y ∷ []) e
    ∙ (sym (map-append f (take k xs) (x ∷ [])) ∙ ap (λ (l : List X). map f l) (sym (take-next xs k x at))))

module _ {X Y : Type 0} (f : X → Y) (test : X → Bool) (xs : List X) (k : ℕ) (x : X) (at : slice_get xs k ≡ Some x) where
  kept-next : filter test (take (k + 1) xs) ≡ filter test (take k xs) ++ cond (test x) (x ∷ []) []
  kept-next = ap (λ (l : List X). filter test l) (take-next xs k x at) ∙ filter-append test (take k xs) (x ∷ [])

  pub passes-next : test x ≡ true → (old items : List Y) (item : Y) → item ≡ f x → items ≡ old ++ map f (filter test (take k xs)) → items ++ item ∷ [] ≡ old ++ map f (filter test (take (k + 1) xs))
  passes-next t old items item e before =
      ap (λ (l : List Y). l ++ item ∷ []) before
      ∙ (append_assoc old (map f (filter test (take k xs))) (item ∷ [])
      ∙ (ap (λ (y : Y). old ++ (map f (filter test (take k xs)) ++ y ∷ [])) e
      ∙ ap (λ (l : List Y). old ++ l)
      (sym (map-append f (filter test (take k xs)) (x ∷ [])) ∙ ap (λ (l : List X). map f l) (ap (λ (b : Bool). filter test (take k xs) ++ cond b (x ∷ []) []) (sym t) ∙ sym kept-next))))

  pub fails-next : test x ≡ false → (old items : List Y) → items ≡ old ++ map f (filter test (take k xs)) → items ≡ old ++ map f (filter test (take (k + 1) xs))
  fails-next t old items before =
      before
      ∙ ap (λ (l : List X). old ++ map f l) (sym (append-nil (filter test (take k xs))) ∙ (ap (λ (b : Bool). filter test (take k xs) ++ cond b (x ∷ []) []) (sym t) ∙ sym kept-next))

-- one pair more, and the last
module _ (d : DesignOf) where
  pub pairs-next : (items : List (ℕ × ℕ)) (p q : ℕ) (left right : List SigBit) (a b : SigBit) (ls rs : List SigBit) (total : List (ℕ × ℕ)) → p ≡ place_of d a → q ≡ place_of d b → left ≡ a ∷ ls → right ≡ b ∷ rs
      → items ++ pair_places d left right ≡ total → (items ++ (p, q) ∷ []) ++ pair_places d ls rs ≡ total
  pairs-next items p q left right a b ls rs total ep eq el er before =
      append_assoc items ((p, q) ∷ []) (pair_places d ls rs)
      ∙ (ap (λ (n : ℕ). items ++ ((n, q) ∷ pair_places d ls rs)) ep
      ∙ (ap (λ (n : ℕ). items ++ ((place_of d a, n) ∷ pair_places d ls rs)) eq
      ∙ (ap (λ (l : List SigBit). items ++ pair_places d (a ∷ ls) l) (sym er)
      ∙ (ap (λ (l : List SigBit). items ++ pair_places d l right) (sym el) ∙ before))))

  pub pairs-end : (items : List (ℕ × ℕ)) (left right : List SigBit) (total : List (ℕ × ℕ)) → left ≡ [] → items ++ pair_places d left right ≡ total → items ≡ total
  pairs-end items left right total e before =
      sym (append-nil items) ∙ (ap (λ (l : List SigBit). items ++ pair_places d l right) (sym e) ∙ before)

  none-right : (left : List SigBit) → pair_places d left [] ≡ []
  none-right [] = refl
  none-right (a ∷ left) = refl

  pub pairs-short : (items : List (ℕ × ℕ)) (left right : List SigBit) (total : List (ℕ × ℕ)) → right ≡ [] → items ++ pair_places d left right ≡ total → items ≡ total
  pairs-short items left right total e before =
      sym (append-nil items)
      ∙ (ap (λ (l : List (ℕ × ℕ)). items ++ l) (sym (none-right left)) ∙ (ap (λ (l : List SigBit). items ++ pair_places d left l) (sym e) ∙ before))

module _ (d : DesignOf) where
  pub pair-at : (left right : List SigBit) (k : ℕ) (a b : SigBit) → slice_get left k ≡ Some a → slice_get right k ≡ Some b → slice_get (pair_places d left right) k ≡ Some (place_of d a, place_of d b)
  pair-at [] right k a b h g = absurd cc
  pair-at (x ∷ left) [] k a b h g = absurd cc
  pair-at (x ∷ left) (y ∷ right) zero a b h g =
      let same : x ≡ a = cc in
      let other : y ≡ b = cc in
      ap (λ (z : SigBit). Some (place_of d z, place_of d y)) same ∙ ap (λ (z : SigBit). Some (place_of d a, place_of d z)) other
  pair-at (x ∷ left) (y ∷ right) (suc k) a b h g = pair-at left right k a b h g

  pub sides-at : (connects : List ConnectOf) (i k : ℕ) (j : ConnectOf) (p : ℕ × ℕ) → slice_get connects i ≡ Some j → slice_get (sides d j) k ≡ Some p → (n : ℕ) → n ≡ length (flat_map (sides d) (take i connects)) + k
      → slice_get (flat_map (sides d) connects) n ≡ Some p
  sides-at [] i k j p at h n e = absurd cc
  sides-at (x ∷ connects) zero k j p at h n e =
      let same : x ≡ j = cc in
      let place : n ≡ k = omega (arith, e) in
      app_left (sides d x) (flat_map (sides d) connects) n p (ap (λ (m : ℕ). slice_get (sides d x) m) place ∙ (ap (λ (z : ConnectOf). slice_get (sides d z) k) same ∙ h))
  sides-at (x ∷ connects) (suc i) k j p at h n e =
      let place : n ≡ length (sides d x) + (length (flat_map (sides d) (take i connects)) + k) = omega (arith, e, length-append (sides d x) (flat_map (sides d) (take i connects))) in
      app_right (sides d x) (flat_map (sides d) connects) (length (flat_map (sides d) (take i connects)) + k) n place
      ∙ sides-at connects i k j p at h (length (flat_map (sides d) (take i connects)) + k) refl
