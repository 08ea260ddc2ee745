-- The fate of sayings, and what that is worth.
use Rattle.std.proofs.Common.{List, [], ◌∷◌, ◌++◌, Some, inl, inr, subst}
use Rattle.std.specs.Prelude.{Contains}
use Rattle.cnf_form.specs.Cnf.{LitOf, Assignment, IsUnsatisfiable, Satisfies}
use Rattle.cnf_form.proofs.Rup.{Admitted-true, Satisfies-push}
use Rattle.cnf_form.proofs.Members.{Contains-empty}
use Rattle.cnf_form.proofs.Removal.{Deletes-within}
use Rattle.cert_stream.specs.Telling.{Saying, IsClause, IsDelete, IsValue, IsValuesEnd, IsUnknown, IsFault}
use Rattle.sby_terms.specs.declared.names.Answer.TheVariants.{Sat, Unsat}
use Rattle.cert_judge.specs.Fate.{Found}
use Rattle.cert_judge.specs.Drup.{SayingsFate}
use Rattle.cert_judge.specs.Values.{named}

pub refuted : (C F : List (List LitOf)) (x : Assignment) (ss : List Saying) → SayingsFate C F x ss (Some (Found Unsat)) → IsUnsatisfiable F
refuted C F x [] e y s = cc
refuted C F x (IsClause c place ∷ ss) (inl (a, n, e)) y s = let t = Admitted-true y F c a s in Contains-empty t.0 (subst (λ z. Contains z t.0) n t.1)
refuted C F x (IsClause c place ∷ ss) (inr (inl (a, n, h))) y s = refuted C (F ++ c ∷ []) x ss h y (Satisfies-push y F c s (Admitted-true y F c a s))
refuted C F x (IsClause c place ∷ ss) (inr (inr (n, e))) y s = cc
refuted C F x (IsDelete c ∷ ss) (G, d, h) y s = refuted C G x ss h y (λ e k. s e (Deletes-within F G c d e k))
refuted C F x (IsValue c ∷ ss) h y s = refuted C F (named x c) ss h y s
refuted C F x (IsValuesEnd ∷ ss) (inl (t, e)) y s = cc
refuted C F x (IsValuesEnd ∷ ss) (inr (n, u, e)) y s = cc
refuted C F x (IsUnknown ∷ ss) e y s = cc
refuted C F x (IsFault f ∷ ss) e y s = cc

-- values that satisfy a formula's clauses, where its certificate for Sat is complete
pub satisfied : (C F : List (List LitOf)) (x : Assignment) (ss : List Saying) → SayingsFate C F x ss (Some (Found Sat)) → (y : Assignment) × Satisfies y C
satisfied C F x [] e = cc
satisfied C F x (IsClause c place ∷ ss) (inl (a, n, e)) = cc
satisfied C F x (IsClause c place ∷ ss) (inr (inl (a, n, h))) = satisfied C (F ++ c ∷ []) x ss h
satisfied C F x (IsClause c place ∷ ss) (inr (inr (n, e))) = cc
satisfied C F x (IsDelete c ∷ ss) (G, d, h) = satisfied C G x ss h
satisfied C F x (IsValue c ∷ ss) h = satisfied C F (named x c) ss h
satisfied C F x (IsValuesEnd ∷ ss) (inl (s, e)) = (x, s)
satisfied C F x (IsValuesEnd ∷ ss) (inr (n, u, e)) = cc
satisfied C F x (IsUnknown ∷ ss) e = cc
satisfied C F x (IsFault f ∷ ss) e = cc
