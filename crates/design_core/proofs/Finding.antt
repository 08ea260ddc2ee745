-- What a walk over a list finds, and lists whose items have numbers of their own.
use Rattle.std.proofs.Common.{◌≡◌, ℕ, ◌+◌, ◌<◌, ◌≤◌, Bool, true, false, cond, not, ◌&&◌, ◌||◌, eqb, List, [], ◌∷◌, ◌++◌, length, drop, get_or, Some, None, refl, ap, sym, ◌∙◌}
use Rattle.std.specs.List.{find, list_any, list_all}
use Rattle.std.proofs.lemmas.List.{drop_all, drop_more}
use Rattle.std.proofs.lemmas.List.Folds.{list_any-append}
use Rattle.design_core.specs.Ports.{are_distinct}

module _ {X : Type 0} (test : X → Bool) where
  pub find_here : (xs : List X) (k : ℕ) (x : X) → x ≡ get_or xs k x → k < length xs → test x ≡ true → find test (drop k xs) ≡ Some x
  find_here xs k x e h t =
      let passes : test (get_or xs k x) ≡ true = ap test (sym e) ∙ t in
      ap (λ (l : List X). find test l) (drop_more xs k x h)
      ∙ ap (λ (b : Bool). cond b (Some (get_or xs k x)) (find test (drop (k + 1) xs))) passes
      ∙ ap (λ (y : X). Some y) (sym e)

  pub find_next : (xs : List X) (k : ℕ) (x : X) → x ≡ get_or xs k x → k < length xs → test x ≡ false → find test (drop k xs) ≡ find test (drop (k + 1) xs)
  find_next xs k x e h t =
      let fails : test (get_or xs k x) ≡ false = ap test (sym e) ∙ t in
      ap (λ (l : List X). find test l) (drop_more xs k x h)
      ∙ ap (λ (b : Bool). cond b (Some (get_or xs k x)) (find test (drop (k + 1) xs))) fails

  pub find_none : (xs : List X) (k : ℕ) → length xs ≤ k → find test (drop k xs) ≡ None
  find_none xs k h = ap (λ (l : List X). find test l) (drop_all k xs h)

both : (a b : Bool) → (a && b) ≡ true → (a ≡ true) × (b ≡ true)
both true true h = (refl, refl)
both true false h = absurd cc
both false b h = absurd cc

neither : (a b : Bool) → (a || b) ≡ false → (a ≡ false) × (b ≡ false)
neither false false h = (refl, refl)
neither false true h = absurd cc
neither true b h = absurd cc

-- one more item that passes
pub all-push : {X : Type 0} (test : X → Bool) (y : X) (xs : List X) → list_all test xs ≡ true → test y ≡ true → list_all test (xs ++ y ∷ []) ≡ true
all-push test y [] h t = ap (λ (b : Bool). b && true) t
all-push test y (x ∷ xs) h t =
    let parts = both (test x) (list_all test xs) h in
    ap (λ (b : Bool). b && list_all test (xs ++ y ∷ [])) parts.0 ∙ all-push test y xs parts.1 t

-- one more item, whose number no other has
module _ {X : Type 0} (number : X → ℕ) (y : X) (k : ℕ) (e : number y ≡ k) where
  pub distinct-push : (xs : List X) → are_distinct number xs ≡ true → list_any (λ x. eqb (number x) k) xs ≡ false → are_distinct number (xs ++ y ∷ []) ≡ true
  distinct-push [] h n = refl
  distinct-push (x ∷ xs) h n =
      let test : X → Bool = λ z. eqb (number x) (number z) in
      let old = both (not (list_any test xs)) (are_distinct number xs) h in
      let new = neither (eqb (number x) k) (list_any (λ z. eqb (number z) k) xs) n in
      let rest : are_distinct number (xs ++ y ∷ []) ≡ true = distinct-push xs old.1 new.1 in
      let other : eqb (number x) (number y) ≡ false = ap (λ (j : ℕ). eqb (number x) j) e ∙ new.0 in
      let none : list_any test (xs ++ y ∷ []) ≡ list_any test xs =
      list_any-append test xs (y ∷ []) ∙ ap (λ (b : Bool). list_any test xs || (b || false)) other ∙ or-false (list_any test xs) in
      ap (λ (b : Bool). not b && are_distinct number (xs ++ y ∷ [])) none
      ∙ ap (λ (b : Bool). b && are_distinct number (xs ++ y ∷ [])) old.0
      ∙ rest
    where
      or-false : (b : Bool) → (b || false) ≡ b
      or-false true = refl
      or-false false = refl
