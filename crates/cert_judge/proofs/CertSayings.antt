-- The fate of sayings, part by part.
use Rattle.std.proofs.Common.{◌⊎◌, ℕ, List, [], ◌∷◌, ◌++◌, Some, None, refl, inl, inr}
use Rattle.cnf_form.specs.Cnf.{Assignment}
use Rattle.cert_stream.specs.Telling.{Saying, IsClause, IsDelete, IsValue, IsValuesEnd, IsUnknown, IsFault}
use Rattle.cert_stream.specs.declared.mode.ParseFault.{ParseFault}
use Rattle.proof_stream.specs.Lines.{up_to_fault}
use Rattle.sby_terms.specs.declared.names.Answer.{Answer}
use Rattle.sby_terms.specs.declared.names.Answer.TheVariants.{Unsat}
use Rattle.cert_judge.specs.Drup.{SayingsFate}
use Rattle.cert_judge.specs.Fate.{Fate, Found}
use Rattle.cert_judge.specs.Values.{named}
use Rattle.cert_judge.proofs.Deletions.{Clauses}

module _ (C : Clauses) where
  -- the fate of all is decided by the first of them, or these are undecided
  pub comes_cut : (F : Clauses) (x : Assignment) (ss more : List Saying) (y : Fate) → SayingsFate C F x (ss ++ more) (Some y) → SayingsFate C F x ss (Some y) ⊎ SayingsFate C F x ss None
  comes_cut F x [] more y h = inr refl
  comes_cut F x (IsClause c p ∷ ss) more y (inl h) = inl (inl h)
  comes_cut F x (IsClause c p ∷ ss) more y (inr (inl (a, m, h))) = elim (comes_cut (F ++ c ∷ []) x ss more y h) [ inl k ↦ inl (inr (inl (a, m, k))) | inr k ↦ inr (inr (inl (a, m, k))) ]
  comes_cut F x (IsClause c p ∷ ss) more y (inr (inr h)) = inl (inr (inr h))
  comes_cut F x (IsDelete c ∷ ss) more y (G, d, h) = elim (comes_cut G x ss more y h) [ inl k ↦ inl (G, d, k) | inr k ↦ inr (G, d, k) ]
  comes_cut F x (IsValue l ∷ ss) more y h = comes_cut F (named x l) ss more y h
  comes_cut F x (IsValuesEnd ∷ ss) more y h = inl h
  comes_cut F x (IsUnknown ∷ ss) more y h = inl h
  comes_cut F x (IsFault f ∷ ss) more y h = inl h

  -- a fault is something
  pub fault_some : (F : Clauses) (x : Assignment) (ss : List Saying) (f : ParseFault) → SayingsFate C F x (ss ++ IsFault f ∷ []) None → ⊥
  fault_some F x [] f h = let e = h in cc
  fault_some F x (IsClause c p ∷ ss) f (inl (a, m, e)) = let k = e in cc
  fault_some F x (IsClause c p ∷ ss) f (inr (inl (a, m, h))) = fault_some (F ++ c ∷ []) x ss f h
  fault_some F x (IsClause c p ∷ ss) f (inr (inr (a, e))) = let k = e in cc
  fault_some F x (IsDelete c ∷ ss) f (G, d, h) = fault_some G x ss f h
  fault_some F x (IsValue l ∷ ss) f h = fault_some F (named x l) ss f h
  fault_some F x (IsValuesEnd ∷ ss) f (inl (s, e)) = let k = e in cc
  fault_some F x (IsValuesEnd ∷ ss) f (inr (n, u, e)) = let k = e in cc
  fault_some F x (IsUnknown ∷ ss) f e = let k = e in cc
  fault_some F x (IsFault g ∷ ss) f e = let k = e in cc

  -- a certificate is found before a fault
  pub found_before_fault : (F : Clauses) (x : Assignment) (ss more : List Saying) (f : ParseFault) (a : Answer) → SayingsFate C F x (up_to_fault (ss ++ IsFault f ∷ []) ++ more) (Some (Found a)) → SayingsFate C F x ss (Some (Found a))
  found_before_fault F x [] more f a h = absurd (let e = h in cc)
  found_before_fault F x (IsClause c p ∷ ss) more f a (inl h) = inl h
  found_before_fault F x (IsClause c p ∷ ss) more f a (inr (inl (d, m, h))) = inr (inl (d, m, found_before_fault (F ++ c ∷ []) x ss more f a h))
  found_before_fault F x (IsClause c p ∷ ss) more f a (inr (inr h)) = inr (inr h)
  found_before_fault F x (IsDelete c ∷ ss) more f a (G, d, h) = (G, d, found_before_fault G x ss more f a h)
  found_before_fault F x (IsValue l ∷ ss) more f a h = found_before_fault F (named x l) ss more f a h
  found_before_fault F x (IsValuesEnd ∷ ss) more f a h = h
  found_before_fault F x (IsUnknown ∷ ss) more f a h = h
  found_before_fault F x (IsFault g ∷ ss) more f a h = h

  -- a last empty clause is admitted wherever it stands
  pub last_moves : (F : Clauses) (x : Assignment) (ss : List Saying) (p q : ℕ) → SayingsFate C F x (ss ++ IsClause [] p ∷ []) (Some (Found Unsat)) → SayingsFate C F x (ss ++ IsClause [] q ∷ []) (Some (Found Unsat))
  last_moves F x [] p q (inl h) = inl h
  last_moves F x [] p q (inr (inl (a, m, h))) = absurd (m refl)
  last_moves F x [] p q (inr (inr (a, e))) = absurd (let k = e in cc)
  last_moves F x (IsClause c n ∷ ss) p q (inl h) = inl h
  last_moves F x (IsClause c n ∷ ss) p q (inr (inl (a, m, h))) = inr (inl (a, m, last_moves (F ++ c ∷ []) x ss p q h))
  last_moves F x (IsClause c n ∷ ss) p q (inr (inr (a, e))) = absurd (let k = e in cc)
  last_moves F x (IsDelete c ∷ ss) p q (G, d, h) = (G, d, last_moves G x ss p q h)
  last_moves F x (IsValue l ∷ ss) p q h = last_moves F (named x l) ss p q h
  last_moves F x (IsValuesEnd ∷ ss) p q h = h
  last_moves F x (IsUnknown ∷ ss) p q h = h
  last_moves F x (IsFault f ∷ ss) p q h = h
