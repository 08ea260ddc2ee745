-- Lists of state bits and of input bits, one loop's turn after the other.
use Rattle.std.proofs.Common.{◌≡◌, ℕ, ◌+◌, ◌≤◌, Bool, true, false, cond, List, [], ◌∷◌, ◌++◌, drop, length, map, Some, append_assoc, refl, ap, sym, ◌∙◌, arith}
use Rattle.std.specs.Prelude.{slice_get}
use Rattle.std.specs.List.{filter, flat_map, enumerate_from, range_with_len}
use Rattle.std.proofs.lemmas.List.{drop_all, drop_more, map-append, append-nil}
use Rattle.std.proofs.lemmas.List.Elements.{filter-append}
use Rattle.std.proofs.lemmas.List.FromFn.{map-range_with_len_more}
use Rattle.std.proofs.lemmas.Option.{slice_get_within, get_or_from_slice_get}

split : {X : Type 0} (xs : List X) (k : ℕ) (x : X) → slice_get xs k ≡ Some x → drop k xs ≡ x ∷ drop (k + 1) xs
split {X = X} xs k x at = drop_more xs k x (slice_get_within xs k x at) ∙ ap (λ (y : X). y ∷ drop (k + 1) xs) (get_or_from_slice_get xs k x x at)

-- what is listed, and what an element's turn adds
module _ {X Y : Type 0} (f : ℕ × X → List Y) (xs : List X) (total : List Y) (k : ℕ) where
  pub listed-next : (done new : List Y) (x : X) → slice_get xs k ≡ Some x → new ≡ done ++ f (k, x) → done ++ flat_map f (enumerate_from k (drop k xs)) ≡ total
      → new ++ flat_map f (enumerate_from (k + 1) (drop (k + 1) xs)) ≡ total
  listed-next done new x at e before =
      let rest : List Y = flat_map f (enumerate_from (k + 1) (drop (k + 1) xs)) in
      ap (λ (l : List Y). l ++ rest) e
      ∙ (append_assoc done (f (k, x)) rest
      ∙ (ap (λ (l : List X). done ++ flat_map f (enumerate_from k l)) (sym (split xs k x at)) ∙ before))

  pub listed-end : (done : List Y) → length xs ≤ k → done ++ flat_map f (enumerate_from k (drop k xs)) ≡ total → done ≡ total
  listed-end done most before =
      sym (append-nil done) ∙ (ap (λ (l : List X). done ++ flat_map f (enumerate_from k l)) (sym (drop_all k xs most)) ∙ before)

-- one item more, of those that are left
pub item-next : {X Y Z : Type 0} (g : X → Z) (h : Y → Z) (items : List X) (item : X) (left : List Y) (x : Y) (xs : List Y) (total : List Z) → g item ≡ h x → left ≡ x ∷ xs
    → map g items ++ map h left ≡ total → map g (items ++ item ∷ []) ++ map h xs ≡ total
item-next {Y = Y} {Z = Z} g h items item left x xs total e f before =
    ap (λ (l : List Z). l ++ map h xs) (map-append g items (item ∷ []))
    ∙ (append_assoc (map g items) (g item ∷ []) (map h xs)
    ∙ (ap (λ (z : Z). map g items ++ (z ∷ map h xs)) e
    ∙ (ap (λ (l : List Y). map g items ++ map h l) (sym f) ∙ before)))

-- one number more
pub number-next : {X Z : Type 0} (g : X → Z) (h : ℕ → Z) (old items : List X) (item : X) (k : ℕ) → g item ≡ h k → map g items ≡ map g old ++ map h (range_with_len 0 k)
    → map g (items ++ item ∷ []) ≡ map g old ++ map h (range_with_len 0 (k + 1))
number-next {Z = Z} g h old items item k e before =
    map-append g items (item ∷ [])
    ∙ (ap (λ (l : List Z). l ++ g item ∷ []) before
    ∙ (append_assoc (map g old) (map h (range_with_len 0 k)) (g item ∷ [])
    ∙ (ap (λ (z : Z). map g old ++ (map h (range_with_len 0 k) ++ z ∷ [])) e
    ∙ ap (λ (l : List Z). map g old ++ l) (sym (map-range_with_len_more h 0 k k (omega arith))))))

pub plain-next : {Z : Type 0} (h : ℕ → Z) (old items : List Z) (k : ℕ) → items ≡ old ++ map h (range_with_len 0 k) → items ++ h k ∷ [] ≡ old ++ map h (range_with_len 0 (k + 1))
plain-next {Z = Z} h old items k before =
    ap (λ (l : List Z). l ++ h k ∷ []) before
    ∙ (append_assoc old (map h (range_with_len 0 k)) (h k ∷ [])
    ∙ ap (λ (l : List Z). old ++ l) (sym (map-range_with_len_more h 0 k k (omega arith))))

module _ {Z : Type 0} (h : ℕ → Z) (test : ℕ → Bool) (old items : List Z) (k : ℕ) (before : items ≡ old ++ map h (filter test (range_with_len 0 k))) where
  ranges : filter test (range_with_len 0 (k + 1)) ≡ filter test (range_with_len 0 k) ++ filter test (k ∷ [])
  ranges = ap (λ (l : List ℕ). filter test l) (same-range 0 k k (omega arith)) ∙ filter-append test (range_with_len 0 k) (k ∷ [])
    where
      same-range : (a n j : ℕ) → a + n ≡ j → range_with_len a (n + 1) ≡ range_with_len a n ++ j ∷ []
      same-range a n j e = sym (identity (range_with_len a (n + 1))) ∙ (map-range_with_len_more (λ m. m) a n j e ∙ ap (λ (l : List ℕ). l ++ j ∷ []) (identity (range_with_len a n)))
        where
          identity : (l : List ℕ) → map (λ m. m) l ≡ l
          identity [] = refl
          identity (x ∷ xs) = ap (λ (l : List ℕ). x ∷ l) (identity xs)

  -- a number that passes, and one that doesn't
  pub passes-next : test k ≡ true → items ++ h k ∷ [] ≡ old ++ map h (filter test (range_with_len 0 (k + 1)))
  passes-next t =
      ap (λ (l : List Z). l ++ h k ∷ []) before
      ∙ (append_assoc old (map h (filter test (range_with_len 0 k))) (h k ∷ [])
      ∙ ap (λ (l : List Z). old ++ l)
      (sym (map-append h (filter test (range_with_len 0 k)) (k ∷ []))
      ∙ ap (λ (l : List ℕ). map h l) (ap (λ (b : Bool). filter test (range_with_len 0 k) ++ cond b (k ∷ []) []) (sym t) ∙ sym ranges)))

  pub fails-next : test k ≡ false → items ≡ old ++ map h (filter test (range_with_len 0 (k + 1)))
  fails-next t =
      before
      ∙ ap (λ (l : List ℕ). old ++ map h l)
      (sym (append-nil (filter test (range_with_len 0 k)))
      ∙ (ap (λ (b : Bool). filter test (range_with_len 0 k) ++ cond b (k ∷ []) []) (sym t) ∙ sym ranges))
