-- A claim hears what is said.
use Rattle.std.proofs.Common.{◌≡◌, ◌≢◌, ℕ, true, false, List, [], ◌∷◌, ◌++◌, Option, Some, None, refl, sym, ◌∙◌, subst, inl, inr}
use Rattle.cnf_form.specs.Cnf.{LitOf, Deletes, IsAdmitted}
use Rattle.cnf_form.proofs.Members.{Contains-empty}
use Rattle.cert_judge.specs.declared.stream.CertKind.TheVariants.{BadLiteral, BadPart, NotRup as IsNotRup}
use Rattle.cert_stream.specs.Telling.{IsClause}
use Rattle.pair_form.specs.Pair.{PairOf}
use Rattle.inv_stream.specs.Machine.{InvSaying, Says}
use Rattle.inv_stream.specs.declared.mode.Part.{Part}
use Rattle.inv_stream.specs.declared.mode.Part.TheVariants.{Head, Inv, Start, Step, Safe}
use Rattle.inv_fate.specs.Fate.{Bad, SayingsFate, Found, InvFate, IsOverBits}
use Rattle.inv_judge.specs.Claim.{ClaimOf, FateFrom, Leads, fate_of, is_proof, with_outcome}
use Rattle.inv_judge.specs.declared.outcome.InvOutcome.{InvOutcome}

-- what comes then has the same fate
pub leads_on : (x y : ClaimOf) (s : InvSaying) → x.outcome ≡ None → y.pair ≡ x.pair → y.outcome ≡ x.outcome
    → ((rest : List InvSaying) (fate : Option InvFate) → SayingsFate y.pair y.part y.invariant y.present rest fate → SayingsFate x.pair x.part x.invariant x.present (s ∷ rest) fate) → Leads x (s ∷ []) y
leads_on x y s n p o come = record { pair = p; fate = λ rest fate h. come rest fate (subst (λ (q : Option InvOutcome). FateFrom y q rest fate) (o ∙ n) h) }

-- an outcome
pub leads_end : (x m y : ClaimOf) (s : InvSaying) (o : InvOutcome) → y ≡ with_outcome m o → m.pair ≡ x.pair
    → ((rest : List InvSaying) (fate : Option InvFate) → fate ≡ Some (fate_of o) → SayingsFate x.pair x.part x.invariant x.present (s ∷ rest) fate) → Leads x (s ∷ []) y
leads_end x m y s o e p come = subst (λ (z : ClaimOf). Leads x (s ∷ []) z) (sym e) (record { pair = p; fate = come })

module _ (p : PairOf) (I F : List (List LitOf)) (lits : List LitOf) (place : ℕ) (rest : List InvSaying) (fate : Option InvFate) where
  abbrev Says_clause : Part → Type 0
  Says_clause part = SayingsFate p part I F (Says (IsClause lits place) ∷ rest) fate

  pub head_clause : (part : Part) → part ≡ Head → fate ≡ Some (Bad BadPart place) → SayingsFate p part I F (Says (IsClause lits place) ∷ rest) fate
  head_clause part e h = subst Says_clause (sym e) h

  -- neither a proof nor the head
  pub listed : (part : Part) → is_proof part ≡ false → (part ≡ Head → ⊥) → IsOverBits p lits → SayingsFate p part (I ++ lits ∷ []) F rest fate → SayingsFate p part I F (Says (IsClause lits place) ∷ rest) fate
  listed Head e n o h = absurd (n refl)
  listed Inv e n o h = inl (o, h)
  listed Start e n o h = cc
  listed Step e n o h = cc
  listed Safe e n o h = cc

  pub unlisted : (part : Part) → is_proof part ≡ false → (part ≡ Head → ⊥) → (IsOverBits p lits → ⊥) → fate ≡ Some (Bad BadLiteral place) → SayingsFate p part I F (Says (IsClause lits place) ∷ rest) fate
  unlisted Head e n o h = absurd (n refl)
  unlisted Inv e n o h = inr (o, h)
  unlisted Start e n o h = cc
  unlisted Step e n o h = cc
  unlisted Safe e n o h = cc

  pub refuted : (part : Part) → is_proof part ≡ true → (IsAdmitted F lits → ⊥) → fate ≡ Some (Bad IsNotRup place) → SayingsFate p part I F (Says (IsClause lits place) ∷ rest) fate
  refuted Head e a h = cc
  refuted Inv e a h = cc
  refuted Start e a h = inr (a, h)
  refuted Step e a h = inr (a, h)
  refuted Safe e a h = inr (inr (a, h))

  pub completed : (part : Part) → part ≡ Safe → IsAdmitted F lits → lits ≡ [] → fate ≡ Some Found → SayingsFate p part I F (Says (IsClause lits place) ∷ rest) fate
  completed part e a n h = subst Says_clause (sym e) (inl (a, n, h))

  pub joined : (part : Part) → is_proof part ≡ true → IsAdmitted F lits → (part ≡ Safe → lits ≢ []) → SayingsFate p part I (F ++ lits ∷ []) rest fate → SayingsFate p part I F (Says (IsClause lits place) ∷ rest) fate
  joined Head e a n h = cc
  joined Inv e a n h = cc
  joined Start e a n h = inl (a, h)
  joined Step e a n h = inl (a, h)
  joined Safe e a n h = inr (inl (a, n refl, h))

pub deletes_none : (lits : List LitOf) → Deletes [] lits []
deletes_none lits = inr (refl, inl (λ d h s. Contains-empty d h))
