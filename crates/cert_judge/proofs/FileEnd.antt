-- A proof file's end.
use Rattle.std.proofs.Common.{◌≡◌, ℕ, true, eqb, List, [], ◌∷◌, ◌++◌, length, Option, Some, None, refl, sym, ap, ◌∙◌, subst, inl, inr, append_assoc}
use Rattle.std.proofs.lemmas.Bool.{cases_Bool}
use Rattle.cnf_form.specs.Cnf.{FormulaOf}
use Rattle.cert_stream.specs.Telling.{Saying, IsClause, fault_said}
use Rattle.drup_check.specs.Checking.{CheckerOf}
use Rattle.proof_stream.specs.File.{FileOf, after, fault, fresh, said, spoken, taken_of}
use Rattle.proof_stream.specs.declared.spot.Form.{Form}
use Rattle.proof_stream.specs.declared.spot.Form.TheVariants.{Text, Binary}
use Rattle.proof_stream.proofs.Files.{file_spoken}
use Rattle.cert_judge.specs.Certificate.{CertificateOf, LineOf}
use Rattle.cert_judge.specs.Drup.{StreamFate}
use Rattle.cert_judge.specs.Leading.{HasEnded, AwaitsMore, Leads, Tries, ended_at, file_ending}
use Rattle.cert_judge.specs.Lines.{AreValuesTold, TookEnd}
use Rattle.cert_judge.specs.Outcomes.{fate_of, fate_told}
use Rattle.cert_judge.specs.ProofFile.{BytesFate, EndFate, LinesFate, at_end, tried}
use Rattle.cert_judge.specs.Reading.{drup_meaning, file_parsing}
use Rattle.cert_judge.specs.Values.{unnamed}
use Rattle.cert_judge.specs.declared.lines.Lines.TheVariants.{Proof, ProofBinary}
use Rattle.cert_judge.specs.declared.stream.CertKind.TheVariants.{EarlyEnd}
use Rattle.cert_judge.specs.declared.stream.Outcome.{Outcome}
use Rattle.cert_judge.specs.declared.stream.Outcome.TheVariants.{Refuted, Satisfied, Unknown, Bad}
use Rattle.cert_judge.proofs.FileFates.{file_never, spoken_lines}
use Rattle.cert_judge.proofs.Leading.{comes_told, leads_append, leads_ever}

abbrev CertOf : Type 0
CertOf = CertificateOf CheckerOf

-- the lines' end and a last empty clause lead to an outcome
tries_lead : (w : FileOf) (c d e : CertOf) (n : ℕ) (o : Option Outcome) → d.outcome ≡ o → Leads drup_meaning c (file_ending w) d → Tries d o n e
    → Leads drup_meaning c (file_ending w ++ IsClause [] n ∷ []) e × ((x : Outcome) × (e.outcome ≡ Some x))
tries_lead w c d e n None q l (k, x) = (leads_append drup_meaning c d e (file_ending w) (IsClause [] n ∷ []) l q k, x)
tries_lead w c d e n (Some o) q l k =
    (subst (Leads drup_meaning c (file_ending w ++ IsClause [] n ∷ [])) (sym k) (leads_ever drup_meaning c d (file_ending w) (IsClause [] n ∷ []) o l q), (o, ap (λ (z : CertOf). z.outcome) k ∙ q))

-- what the end makes of an outcome
ended : (n : ℕ) (c : CertOf) (x : Outcome) → c.outcome ≡ Some x → (o : Outcome) × ((ended_at n c (Some x)).outcome ≡ Some o) × (fate_of o ≡ at_end n (fate_of x)) × ((ended_at n c (Some x)).formula ≡ c.formula)
ended n c Refuted e = (Refuted, e, refl, refl)
ended n c Satisfied e = (Satisfied, e, refl, refl)
ended n c Unknown e = (Unknown, e, refl, refl)
ended n c (Bad b) e =
    elim (cases_Bool (eqb b.at n)) [
      | inl t ↦ rw t (Bad (record { kind = EarlyEnd; at = n }), refl, refl, refl)
      | inr f ↦ rw f (Bad b, e, refl, refl)
    ]

module _ (form : Form) (l : LineOf FileOf CheckerOf) (d : CertOf) (bytes : List ℕ) (h : AwaitsMore file_parsing drup_meaning (fresh form l.certificate.formula.vars) l.parser l.certificate bytes)
    (n : taken_of l.parser ≡ length bytes) (g : HasEnded l.parser l.certificate d) where
  abbrev f : FormulaOf
  f = l.certificate.formula

  abbrev start : FileOf
  start = fresh form f.vars

  abbrev led : Leads drup_meaning l.certificate (file_ending l.parser ++ IsClause [] (taken_of l.parser) ∷ []) g.tried × ((x : Outcome) × (g.tried.outcome ≡ Some x))
  led = tries_lead l.parser l.certificate g.lines g.tried (taken_of l.parser) g.lines.outcome refl g.leads g.tries

  abbrev won : Outcome
  won = led.1.0

  abbrev closed : (o : Outcome) × ((ended_at (taken_of l.parser) g.tried (Some won)).outcome ≡ Some o) × (fate_of o ≡ at_end (taken_of l.parser) (fate_of won))
      × ((ended_at (taken_of l.parser) g.tried (Some won)).formula ≡ g.tried.formula)
  closed = ended (taken_of l.parser) g.tried won led.1.1

  is : d ≡ ended_at (taken_of l.parser) g.tried (Some won)
  is = g.ended ∙ ap (ended_at (taken_of l.parser) g.tried) led.1.1

  pub end_formula : d.formula ≡ f
  end_formula = ap (λ (z : CertOf). z.formula) is ∙ closed.3 ∙ led.0.formula

  end_outcome : d.outcome ≡ Some closed.0
  end_outcome = ap (λ (z : CertOf). z.outcome) is ∙ closed.1

  -- nothing came of the lines before the end
  nothing_yet : LinesFate form f bytes None
  nothing_yet =
      let k : fault (after start bytes) ≡ None = ap fault (sym h.parser) ∙ h.whole in
      spoken_lines form f bytes None (subst (λ o. StreamFate f (said start bytes ++ fault_said o) None) (sym k) (h.fate [] None refl))

  said_at_end : said start bytes ++ (file_ending l.parser ++ IsClause [] (taken_of l.parser) ∷ []) ≡ tried (length bytes) (spoken true start bytes)
  said_at_end =
      ap (λ (v : FileOf). said start bytes ++ (file_ending v ++ IsClause [] (taken_of l.parser) ∷ [])) h.parser
      ∙ sym (append_assoc (said start bytes) (file_ending (after start bytes)) (IsClause [] (taken_of l.parser) ∷ []))
      ∙ ap (λ k. spoken true start bytes ++ IsClause [] k ∷ []) n

  end_comes : EndFate form f bytes (fate_of closed.0)
  end_comes = (
    spoken true start bytes,
    fate_of won,
    file_spoken form f.vars true bytes,
    subst (λ (z : List Saying). StreamFate f z (Some (fate_of won))) said_at_end
        (subst (λ o. StreamFate f (said start bytes ++ (file_ending l.parser ++ IsClause [] (taken_of l.parser) ∷ [])) (fate_told o)) led.1.1
        (comes_told drup_meaning file_parsing start l.parser l.certificate bytes h (file_ending l.parser ++ IsClause [] (taken_of l.parser) ∷ []) g.tried led.0 (λ f e x. refl))),
    closed.2 ∙ ap (λ k. at_end k (fate_of won)) n,
  )

  comes_here : BytesFate form f true bytes (fate_told d.outcome)
  comes_here = subst (λ o. BytesFate form f true bytes (fate_told o)) (sym end_outcome) (inr (nothing_yet, end_comes))

  pub file_end_comes : BytesFate form d.formula true bytes (fate_told d.outcome)
  file_end_comes = subst (λ (z : FormulaOf). BytesFate form z true bytes (fate_told d.outcome)) (sym end_formula) comes_here

  values_by : (o : Option Outcome) → BytesFate form d.formula true bytes (fate_told o) → AreValuesTold d.formula unnamed d.bits o
  values_by None k = tt
  values_by (Some Refuted) k = tt
  values_by (Some Satisfied) k = absurd (file_never form d.formula true bytes k)
  values_by (Some Unknown) k = tt
  values_by (Some (Bad b)) k = tt

  pub file_end_values : AreValuesTold d.formula unnamed d.bits d.outcome
  file_end_values = values_by d.outcome file_end_comes

-- which formula, whatever the bytes were
same_formula : (w : FileOf) (c d : CertOf) → HasEnded w c d → d.formula ≡ c.formula
same_formula w c d g =
    let k = tries_lead w c g.lines g.tried (taken_of w) g.lines.outcome refl g.leads g.tries in
    let e = ended (taken_of w) g.tried k.1.0 k.1.1 in
    ap (λ (z : CertOf). z.formula) (g.ended ∙ ap (ended_at (taken_of w) g.tried) k.1.1) ∙ e.3 ∙ k.0.formula

pub proof_took_end : (S : Type 0) (l k : LineOf FileOf CheckerOf) → HasEnded l.parser l.certificate k.certificate → TookEnd {S = S} (Proof l) (Proof k)
proof_took_end S l k g = (
  record { formula = same_formula l.parser l.certificate k.certificate g; kind = refl },
  λ bytes (h, n). record { comes = file_end_comes Text l k.certificate bytes h n g; values = file_end_values Text l k.certificate bytes h n g },
)

pub binary_took_end : (S : Type 0) (l k : LineOf FileOf CheckerOf) → HasEnded l.parser l.certificate k.certificate → TookEnd {S = S} (ProofBinary l) (ProofBinary k)
binary_took_end S l k g = (
  record { formula = same_formula l.parser l.certificate k.certificate g; kind = refl },
  λ bytes (h, n). record { comes = file_end_comes Binary l k.certificate bytes h n g; values = file_end_values Binary l k.certificate bytes h n g },
)
