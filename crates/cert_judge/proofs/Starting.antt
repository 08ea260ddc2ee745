-- Before the first byte of a stream.
use Rattle.std.proofs.Common.{◌≡◌, ℕ, ◌+◌, false, List, [], ◌++◌, length, Option, None, refl, sym, ap, ◌∙◌, subst}
use Rattle.cnf_form.specs.Cnf.{FormulaOf}
use Rattle.cert_stream.specs.Machine.{DrupOf}
use Rattle.cert_stream.specs.Telling as drup_telling
use Rattle.cert_stream.specs.LratMachine.{LratOf}
use Rattle.cert_stream.specs.LratTelling as lrat_telling
use Rattle.drup_check.specs.Checking.{CheckerOf, start}
use Rattle.lrat_check.specs.Checking.{HintedOf, Starts as HintedStarts}
use Rattle.proof_stream.specs.File as file
use Rattle.proof_stream.specs.File.{FileOf}
use Rattle.proof_stream.specs.declared.spot.Form.{Form}
use Rattle.proof_stream.specs.declared.spot.Form.TheVariants.{Text, Binary}
use Rattle.cert_judge.specs.Certificate.{CertificateOf}
use Rattle.cert_judge.specs.Drup as drup
use Rattle.cert_judge.specs.Fate.{Fate}
use Rattle.cert_judge.specs.Leading.{AwaitsMore}
use Rattle.cert_judge.specs.Lines.{Starts}
use Rattle.cert_judge.specs.Lrat as lrat
use Rattle.cert_judge.specs.Reading.{Meaning, Parsing, drup_meaning, drup_parsing, file_parsing, lrat_meaning, lrat_parsing}
use Rattle.cert_judge.specs.Values.{named_from, unnamed, values_of}
use Rattle.cert_judge.specs.declared.lines.Lines.TheVariants.{Drup, Lrat, Proof, ProofBinary}
use Rattle.cert_judge.specs.declared.stream.StreamKind.TheVariants.{Drup as DrupKind, Lrat as LratKind, Proof as ProofKind, ProofBinary as ProofBinaryKind}
use Rattle.cert_judge.proofs.LratHearing.{starts_held}

-- nothing was said
module _ {W S C : Type 0} (p : Parsing W S) (m : Meaning S C) (fresh : ℕ → W) (vars_of taken_of : W → ℕ)
    (none : (k : ℕ) → (fresh k ≡ p.after (fresh k) []) × (p.fault (fresh k) ≡ None) × (p.said (fresh k) [] ≡ []) × (vars_of (fresh k) ≡ k) × (taken_of (fresh k) ≡ 0))
    (f : FormulaOf) (vars : ℕ) (v : vars ≡ f.vars) (w : W) (c : CertificateOf C) (e : w ≡ fresh vars) (g : c.formula ≡ f) (l : length c.bits ≡ f.vars + 1) (u : (v : ℕ) → values_of c.bits v ≡ false) (n : c.outcome ≡ None) where
  is : w ≡ fresh c.formula.vars
  is = e ∙ ap fresh (v ∙ ap (λ (z : FormulaOf). z.vars) (sym g))

  none_named : values_of c.bits ≡ unnamed
  none_named = λ i v. u v i

  none_said : p.said (fresh c.formula.vars) [] ≡ []
  none_said = (none c.formula.vars).2

  pub first_at : ((rest : List S) (fate : Option Fate) → m.comes c.formula c.checker unnamed rest fate → m.begins c.formula rest fate)
      → AwaitsMore p m (fresh c.formula.vars) w c [] × (c.formula.vars ≡ vars_of w) × (taken_of w ≡ 0)
  first_at h = (
    record {
      parser = is ∙ (none c.formula.vars).0;
      whole = ap p.fault is ∙ (none c.formula.vars).1;
      undecided = n;
      size = l ∙ ap (λ (z : FormulaOf). z.vars + 1) (sym g);
      fate = λ rest fate k. subst (λ (z : List S). m.begins c.formula (z ++ rest) fate) (sym none_said) (h rest fate (subst (λ x. m.comes c.formula c.checker x rest fate) none_named k));
      values = λ rest. ap (λ x. named_from x (m.lits rest)) none_named ∙ ap (λ (z : List S). named_from unnamed (m.lits (z ++ rest))) (sym none_said);
    },
    sym (ap vars_of is ∙ (none c.formula.vars).3),
    ap taken_of is ∙ (none c.formula.vars).4,
  )

same_clauses : (f : FormulaOf) (c : CertificateOf CheckerOf) → c.formula ≡ f → c.checker ≡ start f → c.checker.clauses ≡ c.formula.clauses
same_clauses f c g s = ap (λ (k : CheckerOf). k.clauses) s ∙ ap (λ (z : FormulaOf). z.clauses) (sym g)

module _ (S : Type 0) (f : FormulaOf) (vars : ℕ) (v : vars ≡ f.vars) where
  -- DRUP text
  pub drup_starts : (w : DrupOf) (c : CertificateOf CheckerOf) → w ≡ drup_telling.fresh vars → c.formula ≡ f → c.checker ≡ start f → length c.bits ≡ f.vars + 1 → ((v : ℕ) → values_of c.bits v ≡ false)
      → c.outcome ≡ None → Starts {S = S} f DrupKind (Drup (record { parser = w; certificate = c }))
  drup_starts w c e g s l u n =
      let k = first_at drup_parsing drup_meaning drup_telling.fresh (λ (z : DrupOf). z.vars) (λ (z : DrupOf). z.taken) (λ k. (refl, refl, refl, refl, refl)) f vars v w c e g l u n
      (λ rest fate h. subst (λ z. drup.SayingsFate c.formula.clauses z unnamed rest fate) (same_clauses f c g s) h) in
      record { formula = g; kind = refl; at = (k.0, k.2); undecided = n; fits = k.1; taken = k.2 }

  -- hinted text
  pub lrat_starts : (w : LratOf) (c : CertificateOf HintedOf) → w ≡ lrat_telling.fresh vars → c.formula ≡ f → HintedStarts f c.checker → length c.bits ≡ f.vars + 1 → ((v : ℕ) → values_of c.bits v ≡ false)
      → c.outcome ≡ None → Starts {S = S} f LratKind (Lrat (record { parser = w; certificate = c }))
  lrat_starts w c e g s l u n =
      let same : lrat.held c.checker ≡ lrat.held_first c.formula.clauses = starts_held f c.checker s ∙ ap (λ (z : FormulaOf). lrat.held_first z.clauses) (sym g) in
      let k = first_at lrat_parsing lrat_meaning lrat_telling.fresh (λ (z : LratOf). z.vars) (λ (z : LratOf). z.taken) (λ k. (refl, refl, refl, refl, refl)) f vars v w c e g l u n
      (λ rest fate h. subst (λ z. lrat.SayingsFate c.formula.clauses z unnamed rest fate) same h) in
      record { formula = g; kind = refl; at = (k.0, k.2); undecided = n; fits = k.1; taken = k.2 }

  -- a proof file
  module _ (w : FileOf) (c : CertificateOf CheckerOf) (g : c.formula ≡ f) (s : c.checker ≡ start f) (l : length c.bits ≡ f.vars + 1) (u : (v : ℕ) → values_of c.bits v ≡ false) (n : c.outcome ≡ None) where
    none_taken : (form : Form) (k : ℕ) → (file.fresh form k ≡ file.after (file.fresh form k) []) × (file.fault (file.fresh form k) ≡ None) × (file.said (file.fresh form k) [] ≡ []) × (file.vars_of (file.fresh form k) ≡ k)
        × (file.taken_of (file.fresh form k) ≡ 0)
    none_taken Text k = (refl, refl, refl, refl, refl)
    none_taken Binary k = (refl, refl, refl, refl, refl)

    file_at : (form : Form) → w ≡ file.fresh form vars → AwaitsMore file_parsing drup_meaning (file.fresh form c.formula.vars) w c [] × (c.formula.vars ≡ file.vars_of w) × (file.taken_of w ≡ 0)
    file_at form e =
        first_at file_parsing drup_meaning (file.fresh form) file.vars_of file.taken_of (none_taken form) f vars v w c e g l u n
        (λ rest fate h. subst (λ z. drup.SayingsFate c.formula.clauses z unnamed rest fate) (same_clauses f c g s) h)

    pub proof_starts : w ≡ file.fresh Text vars → Starts {S = S} f ProofKind (Proof (record { parser = w; certificate = c }))
    proof_starts e = let k = file_at Text e in record { formula = g; kind = refl; at = (k.0, k.2); undecided = n; fits = k.1; taken = k.2 }

    pub binary_starts : w ≡ file.fresh Binary vars → Starts {S = S} f ProofBinaryKind (ProofBinary (record { parser = w; certificate = c }))
    binary_starts e = let k = file_at Binary e in record { formula = g; kind = refl; at = (k.0, k.2); undecided = n; fits = k.1; taken = k.2 }
