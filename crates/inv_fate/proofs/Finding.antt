-- What a stream that is found holds.
use Rattle.std.proofs.Common.{List, [], ◌∷◌, ◌++◌, Some, refl, inl, inr, subst}
use Rattle.std.specs.Prelude.{Contains}
use Rattle.std.proofs.lemmas.List.Elements.{Contains-push_cases}
use Rattle.cnf_form.proofs.Members.{Contains-empty}
use Rattle.cnf_form.specs.Cnf.{LitOf, IsAdmitted, Deletes, Drup, Line, Addition, Deletion}
use Rattle.pair_form.specs.Pair.{PairOf}
use Rattle.cert_stream.specs.Telling.{IsClause, IsDelete, IsValue, IsValuesEnd, IsUnknown, IsFault as IsParseFault}
use Rattle.inv_stream.specs.Machine.{InvSaying, IsFault, IsNext, Says}
use Rattle.inv_stream.specs.declared.mode.Part.{Part}
use Rattle.inv_stream.specs.declared.mode.Part.TheVariants.{Head, Inv, Start, Step, Safe}
use Rattle.inv_fate.specs.Fate.{AreAdmitted, SayingsFate, Found, IsOverBits, opened, owed}
use Rattle.inv_fate.specs.Cert.{IsCertOf}

abbrev pub Clauses : Type 0
Clauses = List (List LitOf)

-- lines lead from F to clauses that admit these
abbrev pub Leads : Clauses → (Clauses → Type 0) → Type 0
Leads F Ends = (lines : List Line) × (G : Clauses) × Drup F lines G × Ends G

pub added : (F : Clauses) (c : List LitOf) (Ends : Clauses → Type 0) → IsAdmitted F c → Leads (F ++ c ∷ []) Ends → Leads F Ends
added F c Ends a r = (Addition c ∷ r.0, r.1, (a, r.2), r.3)

pub deleted : (F G : Clauses) (c : List LitOf) (Ends : Clauses → Type 0) → Deletes F c G → Leads G Ends → Leads F Ends
deleted F G c Ends d r = (Deletion c ∷ r.0, r.1, (G, d, r.2), r.3)

pub done : (F : Clauses) (Ends : Clauses → Type 0) → Ends F → Leads F Ends
done F Ends e = ([], F, refl, e)

abbrev pub Refutes : Clauses → Type 0
Refutes G = IsAdmitted G []

module _ (p : PairOf) where
  abbrev pub Admits : Part → Clauses → Clauses → Type 0
  Admits part I G = AreAdmitted G (owed p part I)

  pub safe_found : (I F : Clauses) (ss : List InvSaying) → SayingsFate p Safe I F ss (Some Found) → Leads F Refutes
  safe_found I F [] e = cc
  safe_found I F (IsNext place ∷ ss) e = cc
  safe_found I F (Says (IsClause c place) ∷ ss) (inl (a, n, e)) = done F Refutes (subst (IsAdmitted F) n a)
  safe_found I F (Says (IsClause c place) ∷ ss) (inr (inl (a, n, h))) = added F c Refutes a (safe_found I (F ++ c ∷ []) ss h)
  safe_found I F (Says (IsClause c place) ∷ ss) (inr (inr (n, e))) = cc
  safe_found I F (Says (IsDelete c) ∷ ss) (G, d, h) = deleted F G c Refutes d (safe_found I G ss h)
  safe_found I F (Says (IsValue l) ∷ ss) h = safe_found I F ss h
  safe_found I F (Says IsValuesEnd ∷ ss) h = safe_found I F ss h
  safe_found I F (Says IsUnknown ∷ ss) e = cc
  safe_found I F (Says (IsParseFault f) ∷ ss) e = cc
  safe_found I F (IsFault f ∷ ss) e = cc

  pub step_found : (I F : Clauses) (ss : List InvSaying) → SayingsFate p Step I F ss (Some Found) → Leads F (Admits Step I) × Leads (opened p Safe I) Refutes
  step_found I F [] e = cc
  step_found I F (IsNext place ∷ ss) (inl (a, h)) = (done F (Admits Step I) a, safe_found I (opened p Safe I) ss h)
  step_found I F (IsNext place ∷ ss) (inr (n, e)) = cc
  step_found I F (Says (IsClause c place) ∷ ss) (inl (a, h)) = let r = step_found I (F ++ c ∷ []) ss h in (added F c (Admits Step I) a r.0, r.1)
  step_found I F (Says (IsClause c place) ∷ ss) (inr (n, e)) = cc
  step_found I F (Says (IsDelete c) ∷ ss) (G, d, h) = let r = step_found I G ss h in (deleted F G c (Admits Step I) d r.0, r.1)
  step_found I F (Says (IsValue l) ∷ ss) h = step_found I F ss h
  step_found I F (Says IsValuesEnd ∷ ss) h = step_found I F ss h
  step_found I F (Says IsUnknown ∷ ss) e = cc
  step_found I F (Says (IsParseFault f) ∷ ss) e = cc
  step_found I F (IsFault f ∷ ss) e = cc

  pub start_found : (I F : Clauses) (ss : List InvSaying) → SayingsFate p Start I F ss (Some Found) →
      Leads F (Admits Start I) × Leads (opened p Step I) (Admits Step I) × Leads (opened p Safe I) Refutes
  start_found I F [] e = cc
  start_found I F (IsNext place ∷ ss) (inl (a, h)) = let r = step_found I (opened p Step I) ss h in (done F (Admits Start I) a, r.0, r.1)
  start_found I F (IsNext place ∷ ss) (inr (n, e)) = cc
  start_found I F (Says (IsClause c place) ∷ ss) (inl (a, h)) = let r = start_found I (F ++ c ∷ []) ss h in (added F c (Admits Start I) a r.0, r.1, r.2)
  start_found I F (Says (IsClause c place) ∷ ss) (inr (n, e)) = cc
  start_found I F (Says (IsDelete c) ∷ ss) (G, d, h) = let r = start_found I G ss h in (deleted F G c (Admits Start I) d r.0, r.1, r.2)
  start_found I F (Says (IsValue l) ∷ ss) h = start_found I F ss h
  start_found I F (Says IsValuesEnd ∷ ss) h = start_found I F ss h
  start_found I F (Says IsUnknown ∷ ss) e = cc
  start_found I F (Says (IsParseFault f) ∷ ss) e = cc
  start_found I F (IsFault f ∷ ss) e = cc

  pub inv_found : (I F : Clauses) (ss : List InvSaying) → ((c : List LitOf) → Contains I c → IsOverBits p c) → SayingsFate p Inv I F ss (Some Found) → (J : Clauses) × IsCertOf p J
  inv_found I F [] o e = cc
  inv_found I F (IsNext place ∷ ss) o h = let r = start_found I (opened p Start I) ss h in (I, record { bits = o; start = r.0; step = r.1; safe = r.2 })
  inv_found I F (Says (IsClause c place) ∷ ss) o (inl (over, h)) =
      inv_found (I ++ c ∷ []) F ss (λ d k. elim (Contains-push_cases I c d k) as (λ _. IsOverBits p d) [ inl m ↦ o d m | inr e ↦ subst (IsOverBits p) e over ]) h
  inv_found I F (Says (IsClause c place) ∷ ss) o (inr (n, e)) = cc
  inv_found I F (Says (IsDelete c) ∷ ss) o (G, d, h) = inv_found I G ss o h
  inv_found I F (Says (IsValue l) ∷ ss) o h = inv_found I F ss o h
  inv_found I F (Says IsValuesEnd ∷ ss) o h = inv_found I F ss o h
  inv_found I F (Says IsUnknown ∷ ss) o e = cc
  inv_found I F (Says (IsParseFault f) ∷ ss) o e = cc
  inv_found I F (IsFault f ∷ ss) o e = cc

  pub head_found : (F : Clauses) (ss : List InvSaying) → SayingsFate p Head [] F ss (Some Found) → (J : Clauses) × IsCertOf p J
  head_found F [] e = cc
  head_found F (IsNext place ∷ ss) h = inv_found [] (opened p Inv []) ss (λ c k. absurd (Contains-empty c k)) h
  head_found F (Says (IsClause c place) ∷ ss) e = cc
  head_found F (Says (IsDelete c) ∷ ss) (G, d, h) = head_found G ss h
  head_found F (Says (IsValue l) ∷ ss) h = head_found F ss h
  head_found F (Says IsValuesEnd ∷ ss) h = head_found F ss h
  head_found F (Says IsUnknown ∷ ss) e = cc
  head_found F (Says (IsParseFault f) ∷ ss) e = cc
  head_found F (IsFault f ∷ ss) e = cc
