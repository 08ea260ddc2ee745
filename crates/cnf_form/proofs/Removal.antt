-- A deletion never changes the closure.
use Rattle.std.proofs.Common.{List, [], ◌∷◌, ◌++◌, refl, sym, subst, inl, inr, ◌⊎◌}
use Rattle.std.specs.Prelude.{Contains}
use Rattle.cnf_form.specs.Cnf.{LitOf, Assignment, Closure, propagated, SameClause, IsReason, Removes, first, later, Deletes, Line, Addition, Deletion, Drup, IsAdmitted, Satisfies, IsUnsatisfiable}
use Rattle.cnf_form.proofs.Rup.{Satisfies-push, Admitted-true}
use Rattle.cnf_form.proofs.Members.{Contains-empty, Contains-head, Contains-tail, Contains-cases}

-- the closure grows with the formula
pub Closure-monotone : {F G : List (List LitOf)} → ((c : List LitOf) → Contains F c → Contains G c) → {l : LitOf} → Closure F l → Closure G l
Closure-monotone more (propagated c l h k others) = propagated c l (more c h) k (λ m q n. Closure-monotone more (others m q n))

pub Removes-contains : {c : List LitOf} {F G : List (List LitOf)} → Removes c F G → (d : List LitOf) → Contains G d → Contains F d
Removes-contains (first e F same) d h = Contains-tail e d F h
Removes-contains (later e F G r) d h =
    elim (Contains-cases e d G h) [
      | inl s ↦ subst (λ z. Contains (e ∷ F) z) s (Contains-head e F)
      | inr h ↦ Contains-tail e d F (Removes-contains r d h)
    ]

pub Removes-cases : {c : List LitOf} {F G : List (List LitOf)} → Removes c F G → (d : List LitOf) → Contains F d → Contains G d ⊎ SameClause c d
Removes-cases {c} (first e F same) d h = elim (Contains-cases e d F h) [ inl s ↦ inr (subst (SameClause c) s same) | inr h ↦ inl h ]
Removes-cases {c} (later e F G r) d h =
    elim (Contains-cases e d F h) [
      | inl s ↦ inl (subst (λ z. Contains (e ∷ G) z) s (Contains-head e G))
      | inr h ↦ elim (Removes-cases r d h) [ inl k ↦ inl (Contains-tail e d G k) | inr s ↦ inr s ]
    ]

-- what the formula derives, it derives without a clause that is no reason
pub Closure-without : (F G : List (List LitOf)) (c : List LitOf) → ((d : List LitOf) → Contains F d → Contains G d ⊎ SameClause c d) → (IsReason F c → ⊥) → {l : LitOf} → Closure F l → Closure G l
Closure-without F G c split not_reason (propagated d l h k others) =
    elim (split d h) [
      | inl h' ↦ propagated d l h' k (λ m q n. Closure-without F G c split not_reason (others m q n))
      | inr same ↦ absurd (not_reason (l, same.back l k, propagated d l h k others, λ m q n. others m (same.forth m q) n))
    ]

pub Deletes-closure : (F G : List (List LitOf)) (c : List LitOf) → Deletes F c G → (l : LitOf) → (Closure F l → Closure G l) × (Closure G l → Closure F l)
Deletes-closure F G c d l = elim d [
  | inl r ↦ (λ h. Closure-without F G c (λ e k. Removes-cases r.0 e k) r.2 h, λ h. Closure-monotone (λ e k. Removes-contains r.0 e k) h)
  | inr s ↦ (λ h. subst (λ z. Closure z l) (sym s.0) h, λ h. subst (λ z. Closure z l) s.0 h)
]

pub Deletes-within : (F G : List (List LitOf)) (c : List LitOf) → Deletes F c G → (d : List LitOf) → Contains G d → Contains F d
Deletes-within F G c d e h = elim d [ inl r ↦ Removes-contains r.0 e h | inr s ↦ subst (λ z. Contains z e) s.0 h ]

-- what satisfies the formula satisfies what the lines lead to
pub Drup-sound : (x : Assignment) (F G : List (List LitOf)) (ls : List Line) → Drup F ls G → Satisfies x F → Satisfies x G
Drup-sound x F G [] d sat = subst (Satisfies x) (sym d) sat
Drup-sound x F G (Addition c ∷ ls) d sat = Drup-sound x (F ++ c ∷ []) G ls d.1 (Satisfies-push x F c sat (Admitted-true x F c d.0 sat))
Drup-sound x F G (Deletion c ∷ ls) d sat = Drup-sound x d.0 G ls d.2 (λ e h. sat e (Deletes-within F d.0 c d.1 e h))

pub Drup-refutes : (F G : List (List LitOf)) (ls : List Line) → Drup F ls G → IsAdmitted G [] → IsUnsatisfiable F
Drup-refutes F G ls d a x sat = let w = Admitted-true x G [] a (Drup-sound x F G ls d sat) in Contains-empty w.0 w.1

-- the clauses before the last line
pub Drup-last : (F G : List (List LitOf)) (ls : List Line) (c : List LitOf) → Drup F (ls ++ Addition c ∷ []) G → (H : List (List LitOf)) × Drup F ls H × IsAdmitted H c
Drup-last F G [] c d = (F, refl, d.0)
Drup-last F G (Addition e ∷ ls) c d = let r = Drup-last (F ++ e ∷ []) G ls c d.1 in (r.0, (d.0, r.1), r.2)
Drup-last F G (Deletion e ∷ ls) c d = let r = Drup-last d.0 G ls c d.2 in (r.0, (d.0, d.1, r.1), r.2)

pub Drup-ends : (F G : List (List LitOf)) (ls : List Line) → Drup F (ls ++ Addition [] ∷ []) G → IsUnsatisfiable F
Drup-ends F G ls d = let r = Drup-last F G ls [] d in Drup-refutes F r.0 ls r.1 r.2
