-- A certificate as a stream, and what it is worth.
use Rattle.std.proofs.Common.{◌≡◌, ◌≢◌, ◌⊎◌, true, List, [], ◌∷◌, ◌++◌, Some, refl, inl, inr, subst, sym}
use Rattle.std.specs.Prelude.{Contains}
use Rattle.cnf_form.specs.Cnf.{LitOf, Assignment, Satisfies, SatisfiesClause, lit_in, IsAdmitted, Drup, Line, Addition, Deletion}
use Rattle.cnf_form.proofs.Members.{Contains-head, Contains-tail}
use Rattle.cnf_form.proofs.Removal.{Drup-sound, Drup-refutes}
use Rattle.cnf_form.proofs.Rup.{Admitted-true, Satisfies-append, Satisfies-push}
use Rattle.pair_form.specs.Pair.{PairOf, IsInvariant, clauses_over}
use Rattle.pair_form.specs.declared.pair.Frame.TheVariants.{First}
use Rattle.cert_stream.specs.Telling.{IsClause, IsDelete}
use Rattle.inv_stream.specs.Machine.{InvSaying, IsNext, Says}
use Rattle.inv_stream.specs.declared.mode.Part.{Part}
use Rattle.inv_stream.specs.declared.mode.Part.TheVariants.{Inv, Start, Step, Safe}
use Rattle.inv_fate.specs.Fate.{AreAdmitted, StreamFate, SayingsFate, Found, IsOverBits, opened, owed}
use Rattle.inv_fate.specs.Cert.{IsCertOf, Shows}
use Rattle.inv_fate.proofs.Finding.{Clauses}

unit_true : (x : Assignment) (l : LitOf) → lit_in x l ≡ true → SatisfiesClause x (l ∷ [])
unit_true x l t = (l, Contains-head l [], t)

module _ (p : PairOf) (I : Clauses) (cert : IsCertOf p I) where
  shown : (part : Part) → Shows p part I → (x : Assignment) → Satisfies x (opened p part I) → Satisfies x (owed p part I)
  shown part s x sat c k = Admitted-true x s.1 c (s.3 c k) (Drup-sound x (opened p part I) s.1 s.0 s.2 sat)

  pub is_invariant : IsInvariant p I
  is_invariant = record {
    starts = λ x sat t. shown Start cert.start x (Satisfies-push x p.formula.clauses (p.start ∷ []) sat (unit_true x p.start t));
    goes_on = λ x sat i t. shown Step cert.step x
        (Satisfies-append x p.formula.clauses (clauses_over p First I ++ (p.next ∷ []) ∷ []) sat
        (Satisfies-push x (clauses_over p First I) (p.next ∷ []) i (unit_true x p.next t)));
    safe = λ x sat i t. Drup-refutes (opened p Safe I) cert.safe.1 cert.safe.0 cert.safe.2 cert.safe.3 x
        (Satisfies-append x p.formula.clauses (clauses_over p First I ++ (p.bad ∷ []) ∷ []) sat
        (Satisfies-push x (clauses_over p First I) (p.bad ∷ []) i (unit_true x p.bad t)));
  }

-- the lines of a proof as they are said, and then more
abbrev pub said : List Line → List InvSaying → List InvSaying
said [] more = more
said (Addition c ∷ ls) more = Says (IsClause c 0) ∷ said ls more
said (Deletion c ∷ ls) more = Says (IsDelete c) ∷ said ls more

abbrev pub listed : Clauses → List InvSaying → List InvSaying
listed [] more = more
listed (c ∷ I) more = Says (IsClause c 0) ∷ listed I more

pub empty_or_not : (c : List LitOf) → (c ≡ []) ⊎ (c ≢ [])
empty_or_not [] = inl refl
empty_or_not (l ∷ c) = inr (λ e. cc)

append_one : (I J : Clauses) (c : List LitOf) → (I ++ c ∷ []) ++ J ≡ I ++ c ∷ J
append_one [] J c = refl
append_one (d ∷ I) J c = let e = append_one I J c in cc

append_none : (I : Clauses) → I ++ [] ≡ I
append_none [] = refl
append_none (d ∷ I) = let e = append_none I in cc

module _ (p : PairOf) where
  safe_said : (I F : Clauses) (lines : List Line) (G : Clauses) → Drup F lines G → IsAdmitted G [] → SayingsFate p Safe I F (said lines (Says (IsClause [] 0) ∷ [])) (Some Found)
  safe_said I F [] G e a = inl (subst (λ (H : Clauses). IsAdmitted H []) e a, refl, refl)
  safe_said I F (Addition c ∷ ls) G (b, d) a = elim (empty_or_not c) [
    | inl e ↦ inl (b, e, refl)
    | inr n ↦ inr (inl (b, n, safe_said I (F ++ c ∷ []) ls G d a))
  ]
  safe_said I F (Deletion c ∷ ls) G (H, d, e) a = (H, d, safe_said I H ls G e a)

  step_said : (I F : Clauses) (lines : List Line) (G : Clauses) (more : List InvSaying) → Drup F lines G → AreAdmitted G (owed p Step I) →
      SayingsFate p Safe I (opened p Safe I) more (Some Found) → SayingsFate p Step I F (said lines (IsNext 0 ∷ more)) (Some Found)
  step_said I F [] G more e a h = inl (subst (λ (H : Clauses). AreAdmitted H (owed p Step I)) e a, h)
  step_said I F (Addition c ∷ ls) G more (b, d) a h = inl (b, step_said I (F ++ c ∷ []) ls G more d a h)
  step_said I F (Deletion c ∷ ls) G more (H, d, e) a h = (H, d, step_said I H ls G more e a h)

  start_said : (I F : Clauses) (lines : List Line) (G : Clauses) (more : List InvSaying) → Drup F lines G → AreAdmitted G (owed p Start I) →
      SayingsFate p Step I (opened p Step I) more (Some Found) → SayingsFate p Start I F (said lines (IsNext 0 ∷ more)) (Some Found)
  start_said I F [] G more e a h = inl (subst (λ (H : Clauses). AreAdmitted H (owed p Start I)) e a, h)
  start_said I F (Addition c ∷ ls) G more (b, d) a h = inl (b, start_said I (F ++ c ∷ []) ls G more d a h)
  start_said I F (Deletion c ∷ ls) G more (H, d, e) a h = (H, d, start_said I H ls G more e a h)

  inv_said : (I J : Clauses) (more : List InvSaying) → ((c : List LitOf) → Contains J c → IsOverBits p c) → SayingsFate p Start (I ++ J) (opened p Start (I ++ J)) more (Some Found) →
      SayingsFate p Inv I [] (listed J (IsNext 0 ∷ more)) (Some Found)
  inv_said I [] more o h = subst (λ (K : Clauses). SayingsFate p Start K (opened p Start K) more (Some Found)) (append_none I) h
  inv_said I (c ∷ J) more o h =
      inl (
        o c (Contains-head c J),
        inv_said (I ++ c ∷ []) J more (λ d k. o d (Contains-tail c d J k)) (subst (λ (K : Clauses). SayingsFate p Start K (opened p Start K) more (Some Found)) (sym (append_one I J c)) h),
      )

  pub is_found : (I : Clauses) → IsCertOf p I → (ss : List InvSaying) × StreamFate p ss (Some Found)
  is_found I cert =
      let safe = safe_said I (opened p Safe I) cert.safe.0 cert.safe.1 cert.safe.2 cert.safe.3 in
      let step = step_said I (opened p Step I) cert.step.0 cert.step.1 (said cert.safe.0 (Says (IsClause [] 0) ∷ [])) cert.step.2 cert.step.3 safe in
      let start = start_said I (opened p Start I) cert.start.0 cert.start.1 (said cert.step.0 (IsNext 0 ∷ said cert.safe.0 (Says (IsClause [] 0) ∷ []))) cert.start.2 cert.start.3 step in (
        IsNext 0 ∷ listed I (IsNext 0 ∷ said cert.start.0 (IsNext 0 ∷ said cert.step.0 (IsNext 0 ∷ said cert.safe.0 (Says (IsClause [] 0) ∷ [])))),
        inv_said [] I (said cert.start.0 (IsNext 0 ∷ said cert.step.0 (IsNext 0 ∷ said cert.safe.0 (Says (IsClause [] 0) ∷ [])))) cert.bits start,
      )
