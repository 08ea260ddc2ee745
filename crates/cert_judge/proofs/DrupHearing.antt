-- A certificate of DRUP text hears what is said.
use Rattle.std.proofs.Common.{◌≡◌, ◌≢◌, ℕ, Bool, true, false, eqb, List, [], ◌∷◌, ◌++◌, length, Option, Some, None, refl, sym, ap, subst, inl, inr, arith}
use Rattle.std.proofs.lemmas.Bool.{eqb-true, eqb-false}
use Rattle.cnf_form.specs.Cnf.{LitOf, FormulaOf, IsAdmitted, Deletes, Satisfies}
use Rattle.cert_stream.specs.Telling.{Saying, IsClause, IsDelete, IsValuesEnd}
use Rattle.drup_check.specs.Checking.{CheckerOf}
use Rattle.cert_judge.specs.Certificate.{CertificateOf, with_outcome}
use Rattle.cert_judge.specs.Drup.{SayingsFate}
use Rattle.cert_judge.specs.Leading.{Leads, Tries}
use Rattle.cert_judge.specs.Reading.{drup_meaning}
use Rattle.cert_judge.specs.Values.{IsFirstUnsatisfied, values_of}
use Rattle.cert_judge.specs.declared.stream.CertKind.TheVariants.{NotRup, NotSatisfying}
use Rattle.cert_judge.specs.declared.stream.Outcome.{Outcome}
use Rattle.cert_judge.specs.declared.stream.Outcome.TheVariants.{Refuted, Satisfied, Bad as BadOutcome}
use Rattle.cert_judge.proofs.Leading.{certificate, from_fields, settles, undecided}

pub none_in : (lits : List LitOf) → eqb (length lits) 0 ≡ true → lits ≡ []
none_in [] e = refl
none_in (l ∷ lits) e = let k : length (l ∷ lits) ≡ 0 = eqb-true (length (l ∷ lits)) 0 e in absurd (omega arith)

pub some_in : (lits : List LitOf) → eqb (length lits) 0 ≡ false → lits ≢ []
some_in [] e = absurd (eqb-false 0 0 e refl)
some_in (l ∷ lits) e = λ q. cc

-- the calls of a receiver
module _ (x : CertificateOf CheckerOf) (f : FormulaOf) (F : CheckerOf) (bits : List Bool) (o : Option Outcome) (e : certificate f F bits o ≡ x) (n : x.outcome ≡ None) where
  abbrev LeadsTo : Saying → CertificateOf CheckerOf → Type 0
  LeadsTo s y = Leads drup_meaning x (s ∷ []) y

  by : (s : Saying) (y : CertificateOf CheckerOf) → Leads drup_meaning (certificate f F bits None) (s ∷ []) y → LeadsTo s y
  by s y h = from_fields drup_meaning x f F bits o e n s y h

  still : (G : CheckerOf) (now : List Bool) → certificate f G now o ≡ certificate f G now None
  still G now = ap (certificate f G now) (undecided drup_meaning x f F bits o e n)

  pub heard_admitted : (G : CheckerOf) (lits : List LitOf) (place : ℕ) → IsAdmitted F.clauses lits → lits ≢ [] → G.clauses ≡ F.clauses ++ lits ∷ [] → LeadsTo (IsClause lits place) (certificate f G bits o)
  heard_admitted G lits place a m g =
      by (IsClause lits place) (certificate f G bits o)
      (subst (Leads drup_meaning (certificate f F bits None) (IsClause lits place ∷ [])) (sym (still G bits))
      (record { formula = refl; size = refl; fate = λ rest fate h. inr (inl (a, m, subst (λ z. SayingsFate f.clauses z (values_of bits) rest fate) g h)); values = λ rest y h. h; satisfied = λ s. cc }))

  pub heard_empty : (G : CheckerOf) (lits : List LitOf) (place : ℕ) → IsAdmitted F.clauses lits → lits ≡ [] → LeadsTo (IsClause lits place) (certificate f G bits (Some Refuted))
  heard_empty G lits place a m =
      by (IsClause lits place) (certificate f G bits (Some Refuted)) (settles drup_meaning f F G bits (IsClause lits place) Refuted (λ q. cc) (λ rest fate h. inl (a, m, h)))

  pub heard_not_rup : (G : CheckerOf) (lits : List LitOf) (place : ℕ) → (IsAdmitted F.clauses lits → ⊥)
      → LeadsTo (IsClause lits place) (certificate f G bits (Some (BadOutcome (record { kind = NotRup; at = place }))))
  heard_not_rup G lits place a =
      by (IsClause lits place) (certificate f G bits (Some (BadOutcome (record { kind = NotRup; at = place }))))
      (settles drup_meaning f F G bits (IsClause lits place) (BadOutcome (record { kind = NotRup; at = place })) (λ q. cc) (λ rest fate h. inr (inr (a, h))))

  pub heard_deletion : (G : CheckerOf) (lits : List LitOf) → Deletes F.clauses lits G.clauses → LeadsTo (IsDelete lits) (certificate f G bits o)
  heard_deletion G lits d =
      by (IsDelete lits) (certificate f G bits o)
      (subst (Leads drup_meaning (certificate f F bits None) (IsDelete lits ∷ [])) (sym (still G bits))
      (record { formula = refl; size = refl; fate = λ rest fate h. (G.clauses, d, h); values = λ rest y h. h; satisfied = λ s. cc }))

  pub heard_satisfied : Satisfies (values_of bits) f.clauses → LeadsTo IsValuesEnd (certificate f F bits (Some Satisfied))
  heard_satisfied s =
      by IsValuesEnd (certificate f F bits (Some Satisfied)) (record { formula = refl; size = refl; fate = λ rest fate h. inl (s, h); values = λ rest y h. h.1; satisfied = λ q. s })

  pub heard_not_satisfying : (k : ℕ) → IsFirstUnsatisfied (values_of bits) f.clauses k → LeadsTo IsValuesEnd (certificate f F bits (Some (BadOutcome (record { kind = NotSatisfying; at = k }))))
  heard_not_satisfying k u =
      by IsValuesEnd (certificate f F bits (Some (BadOutcome (record { kind = NotSatisfying; at = k }))))
      (settles drup_meaning f F F bits IsValuesEnd (BadOutcome (record { kind = NotSatisfying; at = k })) (λ q. cc) (λ rest fate h. inr (k, u, h)))

-- a last empty clause, where there was no outcome
pub tries_open : (x y : CertificateOf CheckerOf) (place : ℕ) → x.outcome ≡ None → (won : Outcome) (z : CertificateOf CheckerOf) → y ≡ with_outcome z won → Leads drup_meaning x (IsClause [] place ∷ []) (with_outcome z won)
    → Tries x x.outcome place y
tries_open x y place n won z e h =
    subst (λ o. Tries x o place y) (sym n) (subst (Leads drup_meaning x (IsClause [] place ∷ [])) (sym e) h, (won, ap (λ (c : CertificateOf CheckerOf). c.outcome) e))
