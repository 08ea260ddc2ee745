-- Names that references stand for, and lists of names that grow.
use Rattle.std.proofs.Common.{◌≡◌, ◌⊎◌, ◌↔◌, inl, inr, ℕ, ◌+◌, ◌≤◌, Bool, true, false, ◌||◌, List, [], ◌∷◌, ◌++◌, map, take, length, Some, Contains, bytes_eq, Decides, refl, ap, sym, subst, ◌∙◌}
use Rattle.std.specs.Prelude.{slice_get}
use Rattle.std.specs.Borrow.{Bor}
use Rattle.std.specs.List.{list_any}
use Rattle.std.proofs.lemmas.Slice.Eq.{bytes_eq-Decides}
use Rattle.std.proofs.lemmas.Bool.Decides.{same_from_decides}
use Rattle.std.proofs.lemmas.List.{take_all}
use Rattle.std.proofs.lemmas.List.Folds.{list_any-append}
use Rattle.indexmap.specs.IndexSet.{insert_key}
use Rattle.digraph.proofs.Lists.{get-push-either, get-push-new, get-push-old}
use Rattle.design_core.proofs.Designs.{slice_get-append}
use Rattle.design_core.proofs.Lists.{Contains-from_place, place-from_Contains}
use Rattle.design_lower.proofs.Lists.{get-behind, get-either}
use Rattle.design_lower.specs.Progress.{Adds, has}
use Rattle.design_lower.proofs.Distinct.{map-push, take-next}

pub bytes_eq_comm : (xs ys : List ℕ) → bytes_eq xs ys ≡ bytes_eq ys xs
bytes_eq_comm xs ys =
    let d = bytes_eq-Decides ys xs in
    let e : Decides (bytes_eq ys xs) (xs ≡ ys) = (λ h. sym (d.0 h), λ h. d.1 (sym h)) in
    same_from_decides (bytes_eq xs ys) (bytes_eq ys xs) (bytes_eq-Decides xs ys) e

-- a test of what each item shows is a test of the items
module _ {K X : Type 0} (f : K → X) (p : X → Bool) (q : K → Bool) (same : (k : K) → q k ≡ p (f k)) where
  pub any_by : (ks : List K) → list_any q ks ≡ list_any p (map f ks)
  any_by [] = refl
  any_by (k ∷ ks) = rw (same k, any_by ks) refl

abbrev pub eq_names : Bor (List ℕ) → Bor (List ℕ) → Bool
eq_names a b = bytes_eq a.now b.now

-- a new name goes last
pub push_name : (ks : List (Bor (List ℕ))) (k : Bor (List ℕ)) → has (map (λ n. n.now) ks) k.now ≡ false
    → map (λ n. n.now) (insert_key eq_names ks k) ≡ map (λ n. n.now) ks ++ k.now ∷ []
push_name ks k h =
    let absent : list_any (eq_names k) ks ≡ false = any_by (λ (n : Bor (List ℕ)). n.now) (λ n. bytes_eq n k.now) (eq_names k) (λ n. bytes_eq_comm k.now n.now) ks ∙ h in
    rw absent (map-push (λ (n : Bor (List ℕ)). n.now) ks k)

either : (a b : Bool) → (a || b) ≡ true → (a ≡ true) ⊎ (b ≡ true)
either true b h = inl refl
either false b h = inr h

or-left : (a b : Bool) → a ≡ true → (a || b) ≡ true
or-left a b h = ap (λ (x : Bool). x || b) h

or-right : (a b : Bool) → b ≡ true → (a || b) ≡ true
or-right true b h = refl
or-right false b h = h

-- one name more
pub has-push : (names : List (List ℕ)) (name n : List ℕ) → (has (names ++ name ∷ []) n ≡ true) ↔ ((has names n ≡ true) ⊎ (n ≡ name))
has-push names name n =
    let split : has (names ++ name ∷ []) n ≡ (has names n || (bytes_eq name n || false)) = list_any-append (λ (m : List ℕ). bytes_eq m n) names (name ∷ []) in
    let d = bytes_eq-Decides name n in (
      λ h. elim (either (has names n) (bytes_eq name n || false) (sym split ∙ h)) as (λ _. (has names n ≡ true) ⊎ (n ≡ name)) [
        | inl old ↦ inl old
        | inr new ↦ elim (either (bytes_eq name n) false new) as (λ _. (has names n ≡ true) ⊎ (n ≡ name)) [ inl e ↦ inr (sym (d.0 e)) | inr never ↦ absurd cc ]
      ],
      λ h. elim h as (λ _. has (names ++ name ∷ []) n ≡ true) [
        | inl old ↦ split ∙ or-left (has names n) (bytes_eq name n || false) old
        | inr e ↦ split ∙ or-right (has names n) (bytes_eq name n || false) (or-left (bytes_eq name n) false (d.1 (sym e)))
      ],
    )

-- a name that is there already
pub has-old : (names : List (List ℕ)) (name n : List ℕ) → has names name ≡ true → (has names n ≡ true) ↔ ((has names n ≡ true) ⊎ (n ≡ name))
has-old names name n there = (
  λ h. inl h,
  λ h. elim h as (λ _. has names n ≡ true) [ inl old ↦ old | inr e ↦ subst (λ (m : List ℕ). has names m ≡ true) (sym e) there ],
)

pub adds-none : (old : List (List ℕ)) → Adds old old []
adds-none old n = (λ h. inl h, λ h. elim h as (λ _. has old n ≡ true) [ inl a ↦ a | inr b ↦ let p = place-from_Contains [] n b in absurd (nothing p.0 p.1) ])
  where
    nothing : {m : List ℕ} (k : ℕ) → slice_get [] k ≡ Some m → ⊥
    nothing k e = cc

-- one item's name more
module _ {X : Type 0} (f : X → List ℕ) (xs : List X) (k : ℕ) (x : X) (at : slice_get xs k ≡ Some x) (old mid new : List (List ℕ)) where
  pub adds-next : Adds old mid (map f (take k xs)) → ((n : List ℕ) → (has new n ≡ true) ↔ ((has mid n ≡ true) ⊎ (n ≡ f x))) → Adds old new (map f (take (k + 1) xs))
  adds-next before step n =
      let more : map f (take (k + 1) xs) ≡ map f (take k xs) ++ f x ∷ [] = ap (λ (l : List X). map f l) (take-next xs k x at) ∙ map-push f (take k xs) x in
      let b = before n in
      let s = step n in (
        λ h. elim (s.0 h) as (λ _. (has old n ≡ true) ⊎ Contains (map f (take (k + 1) xs)) n) [
          | inl m ↦ elim (b.0 m) as (λ _. (has old n ≡ true) ⊎ Contains (map f (take (k + 1) xs)) n) [
            | inl o ↦ inl o
            | inr c ↦
                let p = place-from_Contains (map f (take k xs)) n c in
                inr (subst (λ (l : List (List ℕ)). Contains l n) (sym more) (Contains-from_place (map f (take k xs) ++ f x ∷ []) p.0 n (get-push-old (map f (take k xs)) (f x) n p.0 p.1)))
          ]
          | inr e ↦
              let there = Contains-from_place (map f (take k xs) ++ f x ∷ []) (length (map f (take k xs))) (f x) (get-push-new (map f (take k xs)) (f x)) in
              inr (subst (λ (l : List (List ℕ)). Contains l n) (sym more) (subst (λ (m : List ℕ). Contains (map f (take k xs) ++ f x ∷ []) m) (sym e) there))
        ],
        λ h. elim h as (λ _. has new n ≡ true) [
          | inl o ↦ s.1 (inl (b.1 (inl o)))
          | inr c ↦
              let p = place-from_Contains (map f (take k xs) ++ f x ∷ []) n (subst (λ (l : List (List ℕ)). Contains l n) more c) in
              elim (get-push-either (map f (take k xs)) (f x) n p.0 p.1) as (λ _. has new n ≡ true) [
                | inl front ↦ s.1 (inl (b.1 (inr (Contains-from_place (map f (take k xs)) p.0 n front))))
                | inr last ↦ s.1 (inr last.1)
              ]
        ],
      )

pub adds-all : {X : Type 0} (f : X → List ℕ) (xs : List X) (k : ℕ) (old new : List (List ℕ)) → length xs ≤ k → Adds old new (map f (take k xs)) → Adds old new (map f xs)
adds-all {X = X} f xs k old new le h = subst (λ (l : List X). Adds old new (map f l)) (take_all k xs le) h

-- two lists of names, one after the other
pub adds-both : (mid new xs ys : List (List ℕ)) → Adds [] mid xs → Adds mid new ys → (n : List ℕ) → (has new n ≡ true) ↔ Contains (xs ++ ys) n
adds-both mid new xs ys first then n =
    let a = first n in
    let b = then n in (
      λ h. elim (b.0 h) as (λ _. Contains (xs ++ ys) n) [
        | inl m ↦ elim (a.0 m) as (λ _. Contains (xs ++ ys) n) [
          | inl never ↦ absurd cc
          | inr c ↦ let p = place-from_Contains xs n c in Contains-from_place (xs ++ ys) p.0 n (slice_get-append xs ys p.0 n p.1)
        ]
        | inr c ↦ let p = place-from_Contains ys n c in Contains-from_place (xs ++ ys) (length xs + p.0) n (get-behind xs ys p.0 ∙ p.1)
      ],
      λ c.
          let p = place-from_Contains (xs ++ ys) n c in
          elim (get-either xs ys p.0 n p.1) as (λ _. has new n ≡ true) [
            | inl front ↦ b.1 (inl (a.1 (inr (Contains-from_place xs p.0 n front))))
            | inr rest ↦ b.1 (inr (Contains-from_place ys rest.0 n rest.2))
          ],
    )
