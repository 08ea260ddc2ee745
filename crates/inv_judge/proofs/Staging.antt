-- A claim by its stage, and what it hears.
use Rattle.std.proofs.Common.{◌≡◌, ◌≢◌, ◌⊎◌, ℕ, true, List, [], ◌∷◌, ◌++◌, Option, Some, None, refl, sym, ap, ◌∙◌, subst, inl, inr}
use Rattle.std.specs.Prelude.{◌↔◌}
use Rattle.std.proofs.lemmas.List.Elements.{Contains-append_cases}
use Rattle.cnf_form.specs.Cnf.{Deletes, IsAdmitted, LitOf}
use Rattle.cnf_form.proofs.Members.{Contains-empty, Contains-head, Contains-one, Contains-tail}
use Rattle.cert_judge.specs.declared.stream.CertKind.TheVariants.{BadLiteral, BadPart, NotInvariant, NotRup as IsNotRup}
use Rattle.cert_stream.specs.Telling.{IsClause, IsDelete}
use Rattle.drup_check.specs.declared.Added.{Added}
use Rattle.drup_check.specs.declared.Added.TheVariants.{Admitted, NotRup}
use Rattle.pair_form.specs.Pair.{PairOf, bit_lits}
use Rattle.pair_form.specs.declared.pair.Frame.TheVariants.{First, Second}
use Rattle.pair_form.specs.declared.pair.Frame.{Frame}
use Rattle.drup_check.specs.Checking.{CheckerOf}
use Rattle.inv_stream.specs.Machine.{InvSaying, IsNext, Says}
use Rattle.inv_stream.specs.declared.mode.Part.{Part}
use Rattle.inv_stream.specs.declared.mode.Part.TheVariants.{Head, Inv, Safe, Start, Step}
use Rattle.inv_fate.specs.Fate.{SayingsFate, InvFate, IsOverBits, opened}
use Rattle.inv_judge.specs.Claim.{Adds, ClaimOf, Leads, Passes, begun, is_proof, part_of, part_of_proof, present_of, with_outcome}
use Rattle.inv_judge.specs.declared.outcome.InvOutcome.{InvOutcome}
use Rattle.inv_judge.specs.declared.outcome.InvOutcome.TheVariants as outcome
use Rattle.inv_judge.specs.declared.stage.Proof.{Proof}
use Rattle.inv_judge.specs.declared.stage.Proof.TheVariants as proof
use Rattle.inv_judge.specs.declared.stage.Stage.{Stage}
use Rattle.inv_judge.specs.declared.stage.Stage.TheVariants as stage
use Rattle.inv_judge.proofs.Hearing.{completed, head_clause, joined, leads_end, leads_on, listed, refuted, unlisted}

abbrev pub claim : PairOf → List (List LitOf) → Option InvOutcome → Stage → ClaimOf
claim p I o s = record { pair = p; part = part_of s; invariant = I; present = present_of s; outcome = o }

proof_is : (q : Proof) → is_proof (part_of_proof q) ≡ true
proof_is proof.Start = refl
proof_is proof.Step = refl
proof_is proof.Safe = refl

same_added : (a b : Added) → Some a ≡ Some b → a ≡ b
same_added a b e = cc

pub adds_by : (q : Proof) (old new : List (List LitOf)) (lits : List LitOf) (a : Added) → (a ≡ Admitted) ↔ IsAdmitted old lits → (a ≡ Admitted → new ≡ old ++ lits ∷ []) → (a ≡ NotRup → new ≡ old)
    → Adds (part_of_proof q) old lits new (Some a)
adds_by q old new lits a x y z = record {
  none = λ e. absurd (cc);
  admitted = λ e. let k = same_added a Admitted e in (proof_is q, x.0 k, y k);
  refused = λ e. let k = same_added a NotRup e in (proof_is q, (λ h. let m = x.1 h in cc), z k);
}

-- whether each literal is of a state bit that has literals
some_or_none : (o : Option LitOf) → (o ≢ None) ⊎ (o ≡ None)
some_or_none None = inr refl
some_or_none (Some l) = inl (λ e. cc)

pub over_bits_or_not : (p : PairOf) (c : List LitOf) → IsOverBits p c ⊎ (IsOverBits p c → ⊥)
over_bits_or_not p [] = inl (λ l h. absurd (Contains-empty l h))
over_bits_or_not p (d ∷ c) = elim (some_or_none (bit_lits p First d.var)) [
  | inr e ↦ inr (λ h. h d (Contains-head d c) e)
  | inl s ↦ elim (over_bits_or_not p c) [
    | inl k ↦ inl (λ l h. elim (Contains-append_cases (d ∷ []) c l h) as (λ _. bit_lits p First l.var ≢ None) [
      | inl i ↦ subst (λ (m : LitOf). bit_lits p First m.var ≢ None) (Contains-one d l i) s
      | inr i ↦ k l i
    ])
    | inr k ↦ inr (λ h. k (λ l i. h l (Contains-tail d l c i)))
  ]
]

module _ (p : PairOf) (I : List (List LitOf)) (o : Option InvOutcome) (s t : Stage) (n : o ≡ None) (same : part_of t ≡ part_of s) where
  pub heard_delete : (lits : List LitOf) → Deletes (present_of s) lits (present_of t) → Leads (claim p I o s) (Says (IsDelete lits) ∷ []) (claim p I o t)
  heard_delete lits d = leads_on (claim p I o s) (claim p I o t) (Says (IsDelete lits)) n refl refl
      (λ rest fate h. (present_of t, d, subst (λ (part : Part). SayingsFate p part I (present_of t) rest fate) same h))

  module _ (lits : List LitOf) (place : ℕ) (y : ClaimOf) (added : Option Added) (a : Adds (part_of s) (present_of s) lits (present_of t) added) where
    pub heard_head : part_of t ≡ Head → y ≡ with_outcome (claim p I o t) (outcome.Bad (record { kind = BadPart; at = place })) → Leads (claim p I o s) (Says (IsClause lits place) ∷ []) y
    heard_head head e = leads_end (claim p I o s) (claim p I o t) y (Says (IsClause lits place)) (outcome.Bad (record { kind = BadPart; at = place })) e refl
        (λ rest fate h. head_clause p I (present_of s) lits place rest fate (part_of s) (sym same ∙ head) h)

    pub heard_listed : added ≡ None → (part_of t ≡ Head → ⊥) → IsOverBits p lits → y ≡ record (claim p I o t) { invariant = I ++ lits ∷ [] } → Leads (claim p I o s) (Says (IsClause lits place) ∷ []) y
    heard_listed none head over e =
        subst (λ (z : ClaimOf). Leads (claim p I o s) (Says (IsClause lits place) ∷ []) z) (sym e)
        (leads_on (claim p I o s) (record (claim p I o t) { invariant = I ++ lits ∷ [] }) (Says (IsClause lits place)) n refl refl
        (λ rest fate h. listed p I (present_of s) lits place rest fate (part_of s) (a.none none).0 (λ k. head (same ∙ k)) over
        (subst (λ (F : List (List LitOf)). SayingsFate p (part_of s) (I ++ lits ∷ []) F rest fate) (a.none none).1 (subst (λ (part : Part). SayingsFate p part (I ++ lits ∷ []) (present_of t) rest fate) same h))))

    pub heard_unlisted : added ≡ None → (part_of t ≡ Head → ⊥) → (IsOverBits p lits → ⊥) → y ≡ with_outcome (claim p I o t) (outcome.Bad (record { kind = BadLiteral; at = place })) → Leads (claim p I o s) (Says (IsClause lits place) ∷ []) y
    heard_unlisted none head over e = leads_end (claim p I o s) (claim p I o t) y (Says (IsClause lits place)) (outcome.Bad (record { kind = BadLiteral; at = place })) e refl
        (λ rest fate h. unlisted p I (present_of s) lits place rest fate (part_of s) (a.none none).0 (λ k. head (same ∙ k)) over h)

    pub heard_refused : added ≡ Some NotRup → y ≡ with_outcome (claim p I o t) (outcome.Bad (record { kind = IsNotRup; at = place })) → Leads (claim p I o s) (Says (IsClause lits place) ∷ []) y
    heard_refused r e = leads_end (claim p I o s) (claim p I o t) y (Says (IsClause lits place)) (outcome.Bad (record { kind = IsNotRup; at = place })) e refl
        (λ rest fate h. refuted p I (present_of s) lits place rest fate (part_of s) (a.refused r).0 (a.refused r).1 h)

    pub heard_completed : added ≡ Some Admitted → part_of t ≡ Safe → lits ≡ [] → y ≡ with_outcome (claim p I o t) outcome.Found → Leads (claim p I o s) (Says (IsClause lits place) ∷ []) y
    heard_completed r safe empty e = leads_end (claim p I o s) (claim p I o t) y (Says (IsClause lits place)) outcome.Found e refl
        (λ rest fate h. completed p I (present_of s) lits place rest fate (part_of s) (sym same ∙ safe) (a.admitted r).1 empty h)

    pub heard_joined : added ≡ Some Admitted → (part_of t ≡ Safe → lits ≢ []) → y ≡ claim p I o t → Leads (claim p I o s) (Says (IsClause lits place) ∷ []) y
    heard_joined r some e =
        subst (λ (z : ClaimOf). Leads (claim p I o s) (Says (IsClause lits place) ∷ []) z) (sym e)
        (leads_on (claim p I o s) (claim p I o t) (Says (IsClause lits place)) n refl refl
        (λ rest fate h. joined p I (present_of s) lits place rest fate (part_of s) (a.admitted r).0 (a.admitted r).1 (λ k. some (same ∙ k))
        (subst (λ (F : List (List LitOf)). SayingsFate p (part_of s) I F rest fate) (a.admitted r).2 (subst (λ (part : Part). SayingsFate p part I (present_of t) rest fate) same h))))

pub passes_pair : (c : ClaimOf) (F : List (List LitOf)) (t : Frame) (q : Proof) (place : ℕ) (y : ClaimOf) → Passes c F t q place y → y.pair ≡ c.pair
passes_pair c F t q place y (inl (h, e)) = ap (λ (z : ClaimOf). z.pair) e
passes_pair c F t q place y (inr (h, e)) = ap (λ (z : ClaimOf). z.pair) e

-- the word of the next part
module _ (p : PairOf) (I : List (List LitOf)) (o : Option InvOutcome) (s t : Stage) (place : ℕ) (y : ClaimOf) where
  abbrev Next : Stage → Type 0
  Next u = Leads (claim p I o u) (IsNext place ∷ []) y

  begins : (part : Part) (F : List (List LitOf)) (q : Proof) → o ≡ None → y ≡ begun (claim p I o t) q
      → ((rest : List InvSaying) (fate : Option InvFate) → SayingsFate p (part_of_proof q) I (opened p (part_of_proof q) I) rest fate → SayingsFate p part I F (IsNext place ∷ rest) fate)
      → Leads (record { pair = p; part = part; invariant = I; present = F; outcome = o }) (IsNext place ∷ []) y
  begins part F q n e come =
      subst (λ (z : ClaimOf). Leads (record { pair = p; part = part; invariant = I; present = F; outcome = o }) (IsNext place ∷ []) z) (sym e)
      (leads_on (record { pair = p; part = part; invariant = I; present = F; outcome = o }) (begun (claim p I o t) q) (IsNext place) n refl refl come)

  pub next_head : o ≡ None → s ≡ stage.Head → y ≡ claim p I o stage.Inv → Leads (claim p I o s) (IsNext place ∷ []) y
  next_head n at e = subst Next (sym at)
      (subst (λ (z : ClaimOf). Leads (claim p I o stage.Head) (IsNext place ∷ []) z) (sym e)
      (leads_on (claim p I o stage.Head) (claim p I o stage.Inv) (IsNext place) n refl refl (λ rest fate h. h)))

  pub next_inv : o ≡ None → s ≡ stage.Inv → y ≡ begun (claim p I o t) proof.Start → Leads (claim p I o s) (IsNext place ∷ []) y
  next_inv n at e = subst Next (sym at) (begins Inv [] proof.Start n e (λ rest fate h. h))

  pub next_start : (k : CheckerOf) → o ≡ None → s ≡ stage.Proves proof.Start k → Passes (claim p I o t) k.clauses First proof.Step place y → Leads (claim p I o s) (IsNext place ∷ []) y
  next_start k n at (inl (h, e)) = subst Next (sym at) (begins Start k.clauses proof.Step n e (λ rest fate g. inl (h, g)))
  next_start k n at (inr (h, e)) = subst Next (sym at)
      (leads_end (claim p I o (stage.Proves proof.Start k)) (claim p I o t) y (IsNext place) (outcome.Bad (record { kind = NotInvariant; at = place })) e refl (λ rest fate g. inr (h, g)))

  pub next_step : (k : CheckerOf) → o ≡ None → s ≡ stage.Proves proof.Step k → Passes (claim p I o t) k.clauses Second proof.Safe place y → Leads (claim p I o s) (IsNext place ∷ []) y
  next_step k n at (inl (h, e)) = subst Next (sym at) (begins Step k.clauses proof.Safe n e (λ rest fate g. inl (h, g)))
  next_step k n at (inr (h, e)) = subst Next (sym at)
      (leads_end (claim p I o (stage.Proves proof.Step k)) (claim p I o t) y (IsNext place) (outcome.Bad (record { kind = NotInvariant; at = place })) e refl (λ rest fate g. inr (h, g)))

  pub next_safe : (k : CheckerOf) → o ≡ None → s ≡ stage.Proves proof.Safe k → y ≡ with_outcome (claim p I o t) (outcome.Bad (record { kind = BadPart; at = place })) → Leads (claim p I o s) (IsNext place ∷ []) y
  next_safe k n at e = subst Next (sym at)
      (leads_end (claim p I o (stage.Proves proof.Safe k)) (claim p I o t) y (IsNext place) (outcome.Bad (record { kind = BadPart; at = place })) e refl (λ rest fate g. g))
