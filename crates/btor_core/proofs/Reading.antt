-- What is read off lines by their numbers, as lines are added.
use Rattle.std.proofs.Common.{◌≡◌, ◌⊎◌, ℕ, ◌<◌, ◌≤◌, true, false, eqb, List, [], ◌∷◌, ◌++◌, refl, sym, inl, inr, arith}
use Rattle.std.specs.Prelude.{All}
use Rattle.std.proofs.lemmas.Bool.Decides.{nat_tests}
use Rattle.std.proofs.lemmas.List.Elements.{All-head, All-tail}
use Rattle.btor_core.specs.declared.line.Body.{Body}
use Rattle.btor_core.specs.declared.line.Line.{Line}
use Rattle.btor_core.specs.Shape.{at_nid}

-- a number is that of a line, or not
pub same_nid : (j k : ℕ) → ((j ≡ k) × (eqb j k ≡ true)) ⊎ (eqb j k ≡ false)
same_nid j k = elim (eqb j k) as (λ b. (eqb j k ≡ b) → ((j ≡ k) × (eqb j k ≡ true)) ⊎ (eqb j k ≡ false)) [
  | true ↦ λ e. inl (grind (arith, nat_tests), e)
  | false ↦ λ e. inr e
] refl

module _ (read : Body → ℕ) where
  -- what was read stays
  pub at_kept : (xs ys : List Line) (k : ℕ) → 1 ≤ at_nid read xs k → at_nid read (xs ++ ys) k ≡ at_nid read xs k
  at_kept [] ys k h = absurd (omega arith)
  at_kept (x ∷ xs) ys k h =
      elim (same_nid x.nid k) as (λ _. at_nid read ((x ∷ xs) ++ ys) k ≡ at_nid read (x ∷ xs) k) [
        | inl p ↦ rw p.1 refl
        | inr p ↦ let old : 1 ≤ at_nid read xs k = rw p at h in rw p (at_kept xs ys k old)
      ]

  -- what is read after one line more was there, or is of that line
  pub at_push : (xs : List Line) (l : Line) (k : ℕ) → 1 ≤ at_nid read (xs ++ l ∷ []) k
      → ((1 ≤ at_nid read xs k) × (at_nid read (xs ++ l ∷ []) k ≡ at_nid read xs k)) ⊎ ((k ≡ l.nid) × (at_nid read (xs ++ l ∷ []) k ≡ read l.body))
  at_push [] l k h =
      elim (same_nid l.nid k) as (λ _. ((1 ≤ at_nid read [] k) × (at_nid read (l ∷ []) k ≡ at_nid read [] k)) ⊎ ((k ≡ l.nid) × (at_nid read (l ∷ []) k ≡ read l.body))) [
        | inl p ↦ inr (sym p.0, rw p.1 refl)
        | inr p ↦ absurd (let none : 1 ≤ 0 = rw p at h in omega arith)
      ]
  at_push (x ∷ xs) l k h =
      elim (same_nid x.nid k) as (λ _. ((1 ≤ at_nid read (x ∷ xs) k) × (at_nid read ((x ∷ xs) ++ l ∷ []) k ≡ at_nid read (x ∷ xs) k)) ⊎ ((k ≡ l.nid) × (at_nid read ((x ∷ xs) ++ l ∷ []) k ≡ read l.body))) [
        | inl p ↦ let here : 1 ≤ read x.body = rw p.1 at h in inl (rw p.1 (here, refl))
        | inr p ↦ let rest : 1 ≤ at_nid read (xs ++ l ∷ []) k = rw p at h in rw p (at_push xs l k rest)
      ]

  -- a line is read only by a number that some line has
  pub at_below : (xs : List Line) (k n : ℕ) → All (λ l. l.nid < n) xs → 1 ≤ at_nid read xs k → k < n
  at_below [] k n b h = absurd (omega arith)
  at_below (x ∷ xs) k n b h =
      elim (same_nid x.nid k) as (λ _. k < n) [
        | inl p ↦ let x_below : x.nid < n = All-head (λ (l : Line). l.nid < n) x xs b in let e : x.nid ≡ k = p.0 in omega arith
        | inr p ↦ at_below xs k n (All-tail (λ (l : Line). l.nid < n) x xs b) (rw p at h)
      ]

  -- a line whose number is above those before it is read by it
  pub at_new : (xs ys : List Line) (l : Line) → All (λ k. k.nid < l.nid) xs → at_nid read (xs ++ l ∷ ys) l.nid ≡ read l.body
  at_new [] ys l b = let e : eqb l.nid l.nid ≡ true = grind (arith, nat_tests) in rw e refl
  at_new (x ∷ xs) ys l b =
      let x_below : x.nid < l.nid = All-head (λ (k : Line). k.nid < l.nid) x xs b in
      let e : eqb x.nid l.nid ≡ false = grind (arith, nat_tests) in
      rw e (at_new xs ys l (All-tail (λ (k : Line). k.nid < l.nid) x xs b))
