-- A list of which some elements are kept and changed, each written where it stands or before.
use Rattle.std.proofs.Common.{◌≡◌, ℕ, ◌+◌, ◌<◌, ◌≤◌, Bool, true, false, List, [], ◌∷◌, ◌++◌, Some, map, length, get_or, take, drop, set, refl, sym, ap, subst, ◌∙◌, arith, add-one}
use Rattle.std.specs.List.{filter, slice_get}
use Rattle.std.proofs.Math.Seq.{drop-cons}
use Rattle.std.proofs.lemmas.List.{append-nil, drop-set-lt, get_or-drop, map-append, take_more_set}
use Rattle.std.proofs.lemmas.List.Elements.{filter-append}
use Rattle.std.proofs.lemmas.Option.{get_or_from_slice_get, slice_get-get_or}
use Rattle.gate_graph.proofs.Pushing.{take_one_more}

at_drop : {X : Type 0} (xs : List X) (p : ℕ) (d : X) → get_or (drop p xs) 0 d ≡ get_or xs p d
at_drop xs p d = let z : p + 0 ≡ p = omega arith in subst (λ (k : ℕ). get_or (drop p xs) 0 d ≡ get_or xs k d) z (get_or-drop p xs 0 d)

module _ {X : Type 0} (xs old : List X) (p : ℕ) (x : X) (inside : p < length old) (size : length xs ≡ length old) (rest : drop p xs ≡ drop p old) where
  -- what is read at the place is what stood there
  pub stands : slice_get xs p ≡ Some x → slice_get old p ≡ Some x
  stands is =
      let same : get_or old p x ≡ x = sym (at_drop old p x) ∙ sym (ap (λ (ys : List X). get_or ys 0 x) rest) ∙ at_drop xs p x ∙ get_or_from_slice_get xs p x x is in
      slice_get-get_or old p x inside ∙ ap Some same

  pub rest_later : drop (p + 1) xs ≡ drop (p + 1) old
  rest_later =
      let h : p < length xs = omega arith in
      rw (add-one p) (ap (drop 1) (sym (drop-cons xs p x h) ∙ rest ∙ drop-cons old p x inside))

  pub rest_set : (c : ℕ) (y : X) → c ≤ p → drop (p + 1) (set xs c y) ≡ drop (p + 1) old
  rest_set c y low = let h : c < p + 1 = omega arith in drop-set-lt (p + 1) xs c y h ∙ rest_later

  module _ (f : X → Bool) (g : X → X) (is : slice_get xs p ≡ Some x) (c : ℕ) (done : take c xs ≡ map g (filter f (take p old))) where
    one_more : map g (filter f (take (p + 1) old)) ≡ map g (filter f (take p old)) ++ map g (filter f (x ∷ []))
    one_more =
        ap (λ (ys : List X). map g (filter f ys)) (take_one_more old p x (stands is)) ∙ ap (map g) (filter-append f (take p old) (x ∷ []))
        ∙ map-append g (filter f (take p old)) (filter f (x ∷ []))

    pub left_out : f x ≡ false → take c xs ≡ map g (filter f (take (p + 1) old))
    left_out off = sym (one_more ∙ rw off (append-nil (map g (filter f (take p old)))) ∙ sym done)

    pub kept_on : f x ≡ true → c ≤ p → take (c + 1) (set xs c (g x)) ≡ map g (filter f (take (p + 1) old))
    kept_on on low =
        let h : c < length xs = omega arith in
        take_more_set xs c (g x) h ∙ ap (λ (ys : List X). ys ++ g x ∷ []) done ∙ sym (one_more ∙ rw on refl)
