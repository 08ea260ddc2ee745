-- Marks that are set one after the other.
use Rattle.std.proofs.Common.{◌≡◌, ◌⊎◌, inl, inr, ℕ, zero, suc, ◌+◌, ◌<◌, Bool, true, false, not, List, [], ◌∷◌, ◌++◌, length, get_or, set, take, refl, sym, ap, subst, ◌∙◌, arith}
use Rattle.std.specs.Prelude.{Contains}
use Rattle.std.specs.List.{filter}
use Rattle.std.proofs.lemmas.List.{length_push, take_more, length-set}
use Rattle.std.proofs.lemmas.List.Elements.{Contains-append_left, Contains-push, Contains-push_cases}
use Rattle.model_cone.specs.Marking.{Spreads}
use Rattle.model_cone.specs.Slice.{kept_by}

pub kept-within : (marks : List Bool) (p : ℕ) → kept_by marks p ≡ true → p < length marks
kept-within [] p h = absurd (let z : false ≡ true = h in cc)
kept-within (b ∷ marks) zero h = omega arith
kept-within (b ∷ marks) (suc p) h = let r = kept-within marks p h in omega arith

pub set-here : (marks : List Bool) (p : ℕ) → p < length marks → kept_by (set marks p true) p ≡ true
set-here [] p l = absurd (omega arith)
set-here (b ∷ marks) zero l = refl
set-here (b ∷ marks) (suc p) l = set-here marks p (omega arith)

pub set-kept : (marks : List Bool) (p q : ℕ) → kept_by marks q ≡ true → kept_by (set marks p true) q ≡ true
set-kept [] p q h = h
set-kept (b ∷ marks) zero zero h = refl
set-kept (b ∷ marks) zero (suc q) h = h
set-kept (b ∷ marks) (suc p) zero h = h
set-kept (b ∷ marks) (suc p) (suc q) h = set-kept marks p q h

pub set-only : (marks : List Bool) (p q : ℕ) → kept_by (set marks p true) q ≡ true → (kept_by marks q ≡ true) ⊎ (q ≡ p)
set-only [] p q h = inl h
set-only (b ∷ marks) zero zero h = inr refl
set-only (b ∷ marks) zero (suc q) h = inl h
set-only (b ∷ marks) (suc p) zero h = inl h
set-only (b ∷ marks) (suc p) (suc q) h =
    elim (set-only marks p q h) as (λ _. (kept_by marks q ≡ true) ⊎ (suc q ≡ suc p)) [ inl a ↦ inl a | inr e ↦ inr (ap suc e) ]

pub set-fewer : (marks : List Bool) (p : ℕ) → p < length marks → kept_by marks p ≡ false → length (filter not (set marks p true)) + 1 ≡ length (filter not marks)
set-fewer [] p l h = absurd (omega arith)
set-fewer (true ∷ marks) zero l h = absurd (let z : true ≡ false = h in cc)
set-fewer (false ∷ marks) zero l h = omega arith
set-fewer (true ∷ marks) (suc p) l h = set-fewer marks p (omega arith) h
set-fewer (false ∷ marks) (suc p) l h = let r = set-fewer marks p (omega arith) h in omega arith

pub spread-none : (P : ℕ → Type 0) (marks : List Bool) (stack : List ℕ) → ((p : ℕ) → P p → kept_by marks p ≡ true) → Spreads P marks stack marks stack
spread-none P marks stack h = record {
  size = refl;
  kept = λ p k. k;
  all = h;
  only = λ p k. inl k;
  waits = λ p k. k;
  fresh = λ p k. inl k;
  marked = λ p k. inl k;
  less = omega arith;
}

pub spread-one : (marks : List Bool) (stack : List ℕ) (place : ℕ) → place < length marks → kept_by marks place ≡ false
    → Spreads (λ p. p ≡ place) marks stack (set marks place true) (stack ++ place ∷ [])
spread-one marks stack place l h = record {
  size = length-set marks place true;
  kept = λ p k. set-kept marks place p k;
  all = λ p e. subst (λ (q : ℕ). kept_by (set marks place true) q ≡ true) (sym e) (set-here marks place l);
  only = λ p k. set-only marks place p k;
  waits = λ p k. Contains-append_left stack (place ∷ []) p k;
  fresh = λ p k.
      elim (set-only marks place p k) as (λ _. (kept_by marks p ≡ true) ⊎ Contains (stack ++ place ∷ []) p) [
        | inl a ↦ inl a
        | inr e ↦ inr (subst (λ (q : ℕ). Contains (stack ++ place ∷ []) q) (sym e) (Contains-push stack place))
      ];
  marked = λ p k.
      elim (Contains-push_cases stack place p k) as (λ _. Contains stack p ⊎ (kept_by (set marks place true) p ≡ true)) [
        | inl a ↦ inl a
        | inr e ↦ inr (subst (λ (q : ℕ). kept_by (set marks place true) q ≡ true) e (set-here marks place l))
      ];
  less = (let a = set-fewer marks place l h in let b = length_push stack place in omega arith);
}

pub spread-then : (P Q : ℕ → Type 0) (a b c : List Bool) (s t u : List ℕ) → Spreads P a s b t → Spreads Q b t c u → Spreads (λ p. P p ⊎ Q p) a s c u
spread-then P Q a b c s t u x y = record {
  size = y.size ∙ x.size;
  kept = λ p k. y.kept p (x.kept p k);
  all = λ p h. elim h as (λ _. kept_by c p ≡ true) [ inl g ↦ y.kept p (x.all p g) | inr g ↦ y.all p g ];
  only = λ p k.
      elim (y.only p k) as (λ _. (kept_by a p ≡ true) ⊎ (P p ⊎ Q p)) [
        | inl g ↦ elim (x.only p g) as (λ _. (kept_by a p ≡ true) ⊎ (P p ⊎ Q p)) [ inl e ↦ inl e | inr e ↦ inr (inl e) ]
        | inr g ↦ inr (inr g)
      ];
  waits = λ p k. y.waits p (x.waits p k);
  fresh = λ p k.
      elim (y.fresh p k) as (λ _. (kept_by a p ≡ true) ⊎ Contains u p) [
        | inl g ↦ elim (x.fresh p g) as (λ _. (kept_by a p ≡ true) ⊎ Contains u p) [ inl e ↦ inl e | inr e ↦ inr (y.waits p e) ]
        | inr g ↦ inr g
      ];
  marked = λ p k.
      elim (y.marked p k) as (λ _. Contains s p ⊎ (kept_by c p ≡ true)) [
        | inl g ↦ elim (x.marked p g) as (λ _. Contains s p ⊎ (kept_by c p ≡ true)) [ inl e ↦ inl e | inr e ↦ inr (y.kept p e) ]
        | inr g ↦ inr g
      ];
  less = (let e = x.less in let f = y.less in omega arith);
}

pub spread-as : (P Q : ℕ → Type 0) (a b : List Bool) (s t : List ℕ) → ((p : ℕ) → P p → Q p) → ((p : ℕ) → Q p → P p) → Spreads P a s b t → Spreads Q a s b t
spread-as P Q a b s t to from x = record {
  size = x.size;
  kept = x.kept;
  all = λ p h. x.all p (from p h);
  only = λ p k. elim (x.only p k) as (λ _. (kept_by a p ≡ true) ⊎ Q p) [ inl e ↦ inl e | inr e ↦ inr (to p e) ];
  waits = x.waits;
  fresh = x.fresh;
  marked = x.marked;
  less = x.less;
}

-- what is contained up to one element more
pub more-to : {A : Type 0} (xs : List A) (i : ℕ) (x : A) → i < length xs → x ≡ get_or xs i x → (y : A) → Contains (take i xs) y ⊎ (y ≡ x) → Contains (take (i + 1) xs) y
more-to {A = A} xs i x l e y h =
    let grown : take (i + 1) xs ≡ take i xs ++ x ∷ [] = take_more xs i x l ∙ ap (λ (z : A). take i xs ++ z ∷ []) (sym e) in
    subst (λ (zs : List A). Contains zs y) (sym grown)
    (elim h as (λ _. Contains (take i xs ++ x ∷ []) y) [
      | inl a ↦ Contains-append_left (take i xs) (x ∷ []) y a
      | inr q ↦ subst (λ (z : A). Contains (take i xs ++ x ∷ []) z) (sym q) (Contains-push (take i xs) x)
    ])

pub more-from : {A : Type 0} (xs : List A) (i : ℕ) (x : A) → i < length xs → x ≡ get_or xs i x → (y : A) → Contains (take (i + 1) xs) y → Contains (take i xs) y ⊎ (y ≡ x)
more-from {A = A} xs i x l e y h =
    let grown : take (i + 1) xs ≡ take i xs ++ x ∷ [] = take_more xs i x l ∙ ap (λ (z : A). take i xs ++ z ∷ []) (sym e) in
    elim (Contains-push_cases (take i xs) x y (subst (λ (zs : List A). Contains zs y) grown h)) as (λ _. Contains (take i xs) y ⊎ (y ≡ x)) [
      | inl a ↦ inl a
      | inr q ↦ inr (sym q)
    ]

pub nothing-in : {A : Type 0} (x : A) → Contains {X = A} [] x → ⊥
nothing-in x h = let l = h.1 in omega arith
