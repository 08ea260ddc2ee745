-- What is kept of a list, and lists in which nothing stands twice.
use Rattle.std.proofs.Common.{◌≡◌, ℕ, zero, suc, ◌≤◌, Bool, true, false, List, [], ◌∷◌, ◌++◌, Some, None, length, map, refl, sym, ap, subst, ◌∙◌, inl, inr, arith, length-append}
use Rattle.std.specs.Prelude.{All, Contains, slice_get}
use Rattle.std.specs.List.{concat, filter}
use Rattle.std.proofs.lemmas.List.Elements.{All-head, All-tail}
use Rattle.model_core.specs.Shape.{IsDistinct}
use Rattle.model_core.proofs.Lists.{contained_at, contains_either, contains_left, contains_right, nothing_at, place_of_contained}

pub contains_later : {A : Type 0} (x : A) (ys : List A) (p : A) → Contains ys p → Contains (x ∷ ys) p
contains_later x ys p d = let at = place_of_contained ys p d in contained_at (x ∷ ys) p (suc at.0) at.1

contains_none : {A : Type 0} (p : A) → Contains (let xs : List A = [] in xs) p → ⊥
contains_none {A = A} p c = let at = place_of_contained (let xs : List A = [] in xs) p c in nothing_at at.0 p at.1

-- what is kept of a list
module _ {A : Type 0} (keep : A → Bool) where
  kept_more : (x : A) (xs : List A) (p : A) (b : Bool) → keep x ≡ b → Contains (filter keep xs) p → Contains (filter keep (x ∷ xs)) p
  kept_more x xs p true e rest = rw e (contains_later x (filter keep xs) p rest)
  kept_more x xs p false e rest = rw e rest

  pub kept_there : (xs : List A) (k : ℕ) (p : A) → slice_get xs k ≡ Some p → keep p ≡ true → Contains (filter keep xs) p
  kept_there [] k p h t = absurd (let c : None ≡ Some p = h in cc)
  kept_there (x ∷ xs) zero p h t =
      let e : x ≡ p = cc in
      let u : keep x ≡ true = ap keep e ∙ t in
      rw u (contained_at (x ∷ filter keep xs) p 0 h)
  kept_there (x ∷ xs) (suc k) p h t = kept_more x xs p (keep x) refl (kept_there xs k p h t)

  kept_split : (y : A) (ys : List A) (p : A) (k : ℕ) (b : Bool) → keep y ≡ b → slice_get (filter keep (y ∷ ys)) k ≡ Some p → ((j : ℕ) → slice_get (filter keep ys) j ≡ Some p → Contains ys p × (keep p ≡ true)) → Contains (y ∷ ys) p × (keep p ≡ true)
  kept_split y ys p zero true e h rest =
      let there : slice_get (y ∷ filter keep ys) 0 ≡ Some p = rw e at h in
      let same : y ≡ p = cc in
      (contained_at (y ∷ ys) p 0 there, ap keep (sym same) ∙ e)
  kept_split y ys p (suc k) true e h rest = let r = rest k (let z : slice_get (y ∷ filter keep ys) (suc k) ≡ Some p = rw e at h in z) in (contains_later y ys p r.0, r.1)
  kept_split y ys p k false e h rest = let r = rest k (let z : slice_get (filter keep ys) k ≡ Some p = rw e at h in z) in (contains_later y ys p r.0, r.1)

  kept_at : (ys : List A) (p : A) (k : ℕ) → slice_get (filter keep ys) k ≡ Some p → Contains ys p × (keep p ≡ true)
  kept_at [] p k h = absurd (let n : None ≡ Some p = h in cc)
  kept_at (y ∷ ys) p k h = kept_split y ys p k (keep y) refl h (λ j g. kept_at ys p j g)

  pub kept_from : (xs : List A) (p : A) → Contains (filter keep xs) p → Contains xs p
  kept_from xs p c = let at = place_of_contained (filter keep xs) p c in (kept_at xs p at.0 at.1).0

  pub kept_passes : (xs : List A) (p : A) → Contains (filter keep xs) p → keep p ≡ true
  kept_passes xs p c = let at = place_of_contained (filter keep xs) p c in (kept_at xs p at.0 at.1).1

-- rows and what stands in them
pub joined_there : (rows : List (List ℕ)) (row : List ℕ) (p : ℕ) → Contains rows row → Contains row p → Contains (concat rows) p
joined_there rows row p c d = let at = place_of_contained rows row c in by rows at.0 at.1
  where
    by : (rs : List (List ℕ)) (k : ℕ) → slice_get rs k ≡ Some row → Contains (concat rs) p
    by [] k h = absurd (let n : None ≡ Some row = h in cc)
    by (r ∷ rs) zero h = let e : row ≡ r = (let f : r ≡ row = cc in sym f) in contains_left r (concat rs) p (subst (λ (x : List ℕ). Contains x p) e d)
    by (r ∷ rs) (suc k) h = contains_right r (concat rs) p (by rs k h)

pub joined_from : (rows : List (List ℕ)) (p : ℕ) → Contains (concat rows) p → (row : List ℕ) × Contains rows row × Contains row p
joined_from [] p c = absurd (contains_none p c)
joined_from (r ∷ rs) p c =
    elim (contains_either r (concat rs) p c) as (λ _. (row : List ℕ) × Contains (r ∷ rs) row × Contains row p) [
      | inl h ↦ (r, contained_at (r ∷ rs) r 0 refl, h)
      | inr h ↦ let x = joined_from rs p h in (x.0, contains_later r rs x.0 x.1, x.2)
    ]

pub joined_singles : (ps : List ℕ) → concat (map (λ p. p ∷ []) ps) ≡ ps
joined_singles [] = refl
joined_singles (p ∷ ps) = ap (λ (qs : List ℕ). p ∷ qs) (joined_singles ps)

pub joined_long : (rows : List (List ℕ)) → All (λ row. (1 ≤ length row) × (length row ≤ 4096)) rows → length rows ≤ length (concat rows)
joined_long [] h = omega arith
joined_long (r ∷ rs) h =
    let one = (All-head (λ (row : List ℕ). (1 ≤ length row) × (length row ≤ 4096)) r rs h).0 in
    let rest = joined_long rs (All-tail (λ (row : List ℕ). (1 ≤ length row) × (length row ≤ 4096)) r rs h) in
    let e = length-append r (concat rs) in
    omega arith

-- nothing stands twice, from the front on
abbrev pub Apart : List ℕ → Type 0
Apart [] = Unit {0}
Apart (x ∷ xs) = (Contains xs x → ⊥) × Apart xs

tail_distinct : (p : ℕ) (ps : List ℕ) → IsDistinct (p ∷ ps) → IsDistinct ps
tail_distinct p ps d i j q a b = let e = d (suc i) (suc j) q a b in omega arith

head_apart : (p : ℕ) (ps : List ℕ) → IsDistinct (p ∷ ps) → Contains ps p → ⊥
head_apart p ps d c = let at = place_of_contained ps p c in let e = d 0 (suc at.0) p refl at.1 in absurd (let z : suc at.0 ≡ 0 = sym e in omega arith)

pub apart_from : (xs : List ℕ) → IsDistinct xs → Apart xs
apart_from [] d = tt
apart_from (x ∷ xs) d = (head_apart x xs d, apart_from xs (tail_distinct x xs d))

pub apart_to : (xs : List ℕ) → Apart xs → IsDistinct xs
apart_to [] a i j p h k = absurd (nothing_at i p h)
apart_to (x ∷ xs) a zero zero p h k = refl
apart_to (x ∷ xs) a zero (suc j) p h k = let e : x ≡ p = cc in absurd (a.0 (subst (Contains xs) (sym e) (contained_at xs p j k)))
apart_to (x ∷ xs) a (suc i) zero p h k = let e : x ≡ p = cc in absurd (a.0 (subst (Contains xs) (sym e) (contained_at xs p i h)))
apart_to (x ∷ xs) a (suc i) (suc j) p h k = ap suc (apart_to xs a.1 i j p h k)

pub apart_join : (xs ys : List ℕ) → Apart xs → Apart ys → ((p : ℕ) → Contains xs p → Contains ys p → ⊥) → Apart (xs ++ ys)
apart_join [] ys a b n = b
apart_join (x ∷ xs) ys a b n = (
  λ c. elim (contains_either xs ys x c) as (λ _. ⊥) [ inl h ↦ a.0 h | inr h ↦ n x (contained_at (x ∷ xs) x 0 refl) h ],
  apart_join xs ys a.1 b (λ p c d. n p (contains_later x xs p c) d),
)

pub apart_parts : (xs ys : List ℕ) → Apart (xs ++ ys) → Apart xs × Apart ys × ((p : ℕ) → Contains xs p → Contains ys p → ⊥)
apart_parts [] ys a = (tt, a, λ p c d. contains_none p c)
apart_parts (x ∷ xs) ys a =
    let r = apart_parts xs ys a.1 in
    ((λ c. a.0 (contains_left xs ys x c), r.0), r.1, (λ p c d. let at = place_of_contained (x ∷ xs) p c in by r.2 p d at.0 at.1))
  where
    by : ((p : ℕ) → Contains xs p → Contains ys p → ⊥) → (p : ℕ) → Contains ys p → (k : ℕ) → slice_get (x ∷ xs) k ≡ Some p → ⊥
    by n p d zero h = let e : x ≡ p = cc in a.0 (contains_right xs ys x (subst (Contains ys) (sym e) d))
    by n p d (suc k) h = n p (contained_at xs p k h) d

pub apart_kept : (keep : ℕ → Bool) (xs : List ℕ) → Apart xs → Apart (filter keep xs)
apart_kept keep [] a = tt
apart_kept keep (x ∷ xs) a = by (keep x) refl (apart_kept keep xs a.1)
  where
    by : (b : Bool) → keep x ≡ b → Apart (filter keep xs) → Apart (filter keep (x ∷ xs))
    by true e rest = rw e (λ c. a.0 (kept_from keep xs x c), rest)
    by false e rest = rw e rest

pub joined_kept : (keep : List ℕ → Bool) (rows : List (List ℕ)) (p : ℕ) → Contains (concat (filter keep rows)) p → Contains (concat rows) p
joined_kept keep rows p c = let x = joined_from (filter keep rows) p c in joined_there rows x.0 p (kept_from keep rows x.0 x.1) x.2

pub rows_kept : (keep : List ℕ → Bool) (rows : List (List ℕ)) → Apart (concat rows) → Apart (concat (filter keep rows))
rows_kept keep [] a = tt
rows_kept keep (r ∷ rs) a = let x = apart_parts r (concat rs) a in by (keep r) refl x.0 (rows_kept keep rs x.1) x.2
  where
    by : (b : Bool) → keep r ≡ b → Apart r → Apart (concat (filter keep rs)) → ((p : ℕ) → Contains r p → Contains (concat rs) p → ⊥) → Apart (concat (filter keep (r ∷ rs)))
    by true e head rest n = rw e (apart_join r (concat (filter keep rs)) head rest (λ p c d. n p c (joined_kept keep rs p d)))
    by false e head rest n = rw e rest
