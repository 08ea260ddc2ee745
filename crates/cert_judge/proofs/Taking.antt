-- What parsers and certificates make of the bytes of a stream.
use Rattle.std.proofs.Common.{◌≡◌, ℕ, ◌+◌, Bool, true, false, ◌&&◌, List, [], ◌∷◌, ◌++◌, length, Option, Some, None, refl, sym, ap, ◌∙◌, subst, inl, inr, arith}
use Rattle.std.proofs.lemmas.Bool.{cases_Bool}
use Rattle.std.proofs.lemmas.List.{length-append}
use Rattle.cnf_form.specs.Cnf.{Assignment, FormulaOf}
use Rattle.cert_stream.specs.Machine.{DrupOf, fault_of}
use Rattle.cert_stream.specs.Telling as drup_telling
use Rattle.cert_stream.specs.Telling.{Saying}
use Rattle.cert_stream.specs.LratMachine.{LratOf}
use Rattle.cert_stream.specs.LratTelling as lrat_telling
use Rattle.cert_stream.specs.LratTelling.{LratSaying}
use Rattle.cert_stream.specs.declared.mode.ParseFault.{ParseFault}
use Rattle.cert_stream.specs.declared.mode.ParseFaultKind.TheVariants.{BadLine}
use Rattle.cert_stream.proofs.Cutting as drup_cutting
use Rattle.cert_stream.proofs.LratCutting as lrat_cutting
use Rattle.cert_stream.proofs.Streams as drup_streams
use Rattle.cert_stream.proofs.LratStreams as lrat_streams
use Rattle.drup_check.specs.Checking.{CheckerOf}
use Rattle.lrat_check.specs.Checking.{HintedOf}
use Rattle.proof_stream.specs.File as file
use Rattle.proof_stream.specs.File.{FileOf, InText, InBinary}
use Rattle.proof_stream.specs.Text.{fault_or, is_claim, text_fault, text_next}
use Rattle.proof_stream.specs.declared.spot.Form.{Form}
use Rattle.proof_stream.specs.declared.spot.Form.TheVariants.{Text, Binary}
use Rattle.proof_stream.proofs.Cutting as file_cutting
use Rattle.proof_stream.proofs.Faults.{fault_stays}
use Rattle.proof_stream.proofs.Passing.{text}
use Rattle.cert_judge.specs.Certificate.{CertificateOf, LineOf}
use Rattle.cert_judge.specs.Drup as drup
use Rattle.cert_judge.specs.Fate.{Fate}
use Rattle.cert_judge.specs.Leading.{Heard, AwaitsMore, Leads, drup_ending, lrat_ending}
use Rattle.cert_judge.specs.Lines.{AreValuesTold, Takes, Took, TookEnd}
use Rattle.cert_judge.specs.Lrat as lrat
use Rattle.cert_judge.specs.Outcomes.{fate_told}
use Rattle.cert_judge.specs.ProofFile as proof_file
use Rattle.cert_judge.specs.Reading.{Meaning, Parsing, drup_meaning, drup_parsing, file_parsing, lrat_meaning, lrat_parsing}
use Rattle.cert_judge.specs.Values.{named_from, unnamed}
use Rattle.cert_judge.specs.declared.lines.Lines.TheVariants.{Drup, Lrat, Proof, ProofBinary}
use Rattle.cert_judge.specs.declared.stream.Outcome.{Outcome}
use Rattle.cert_judge.specs.declared.stream.Outcome.TheVariants.{Refuted, Satisfied, Unknown, Bad}
use Rattle.cert_judge.proofs.FileFates.{file_never, spoken_lines}
use Rattle.cert_judge.proofs.Leading.{at_next, comes_told, said_whole, values_told}

-- for a parser and a checker, whatever their kind
module _ {W S C : Type 0} (p : Parsing W S) (m : Meaning S C) (start : ℕ → W) (come : FormulaOf → Bool → List ℕ → Option Fate → Type 0) (named : ℕ → Bool → List ℕ → Assignment)
    (nothing : (f : FormulaOf) (e : C) (x : Assignment) → m.comes f e x [] None) where
  abbrev so_far : FormulaOf → List ℕ → List S
  so_far f bytes = p.said (start f.vars) bytes ++ m.fault_said (p.fault (p.after (start f.vars) bytes))

  module _ (said_append : (w : W) (a b : List ℕ) → p.said w (a ++ b) ≡ p.said w a ++ p.said (p.after w a) b) (after_append : (w : W) (a b : List ℕ) → p.after w (a ++ b) ≡ p.after (p.after w a) b)
      (none_said : m.fault_said None ≡ [])
      (come_so_far : (f : FormulaOf) (bytes : List ℕ) (x : Option Fate) → m.begins f (so_far f bytes) x → come f false bytes x)
      (named_so_far : (f : FormulaOf) (bytes : List ℕ) (bits : List Bool) (o : Option Outcome) → come f false bytes (fate_told o) → AreValuesTold f (named_from unnamed (m.lits (so_far f bytes))) bits o
      → AreValuesTold f (named f.vars false bytes) bits o)
      (w v : W) (c d : CertificateOf C) (bytes piece : List ℕ) (h : AwaitsMore p m (start c.formula.vars) w c bytes) (g : Heard p m w c piece v d) where
    abbrev more : List S
    more = p.said w piece ++ m.fault_said (p.fault (p.after w piece))

    whole : so_far c.formula (bytes ++ piece) ≡ p.said (start c.formula.vars) bytes ++ more
    whole = said_whole m p said_append after_append none_said (start c.formula.vars) w v c d bytes piece h g

    comes_here : come c.formula false (bytes ++ piece) (fate_told d.outcome)
    comes_here =
        come_so_far c.formula (bytes ++ piece) (fate_told d.outcome)
        (subst (λ (z : List S). m.begins c.formula z (fate_told d.outcome)) (sym whole) (comes_told m p (start c.formula.vars) w c bytes h more d g.leads nothing))

    values_here : AreValuesTold c.formula (named c.formula.vars false (bytes ++ piece)) d.bits d.outcome
    values_here =
        named_so_far c.formula (bytes ++ piece) d.bits d.outcome comes_here
        (subst (λ (f : FormulaOf). AreValuesTold f (named_from unnamed (m.lits (so_far c.formula (bytes ++ piece)))) d.bits d.outcome) g.leads.formula
        (values_told m p (start c.formula.vars) w c bytes h more d g.leads (named_from unnamed (m.lits (so_far c.formula (bytes ++ piece)))) (ap (λ (z : List S). named_from unnamed (m.lits z)) (sym whole))))

    took_comes : come d.formula false (bytes ++ piece) (fate_told d.outcome)
    took_comes = subst (λ (f : FormulaOf). come f false (bytes ++ piece) (fate_told d.outcome)) (sym g.leads.formula) comes_here

    took_values : AreValuesTold d.formula (named d.formula.vars false (bytes ++ piece)) d.bits d.outcome
    took_values = subst (λ (f : FormulaOf). AreValuesTold f (named f.vars false (bytes ++ piece)) d.bits d.outcome) (sym g.leads.formula) values_here

    took_at : d.outcome ≡ None → AwaitsMore p m (start d.formula.vars) v d (bytes ++ piece)
    took_at n =
        subst (λ (f : FormulaOf). AwaitsMore p m (start f.vars) v d (bytes ++ piece)) (sym g.leads.formula)
        (at_next m p said_append after_append none_said (start c.formula.vars) w v c d bytes piece h g n)

    pub took : come d.formula false (bytes ++ piece) (fate_told d.outcome) × AreValuesTold d.formula (named d.formula.vars false (bytes ++ piece)) d.bits d.outcome
        × (d.outcome ≡ None → AwaitsMore p m (start d.formula.vars) v d (bytes ++ piece))
    took = (took_comes, took_values, took_at)

  -- and at the end
  module _ (ending : W → List S) (come_at_end : (f : FormulaOf) (bytes : List ℕ) (x : Option Fate) → m.begins f (p.said (start f.vars) bytes ++ ending (p.after (start f.vars) bytes)) x → come f true bytes x)
      (named_at_end : (f : FormulaOf) (bytes : List ℕ) → named_from unnamed (m.lits (p.said (start f.vars) bytes ++ ending (p.after (start f.vars) bytes))) ≡ named f.vars true bytes)
      (w : W) (c d : CertificateOf C) (bytes : List ℕ) (h : AwaitsMore p m (start c.formula.vars) w c bytes) (l : Leads m c (ending w) d) where
    all : p.said (start c.formula.vars) bytes ++ ending w ≡ p.said (start c.formula.vars) bytes ++ ending (p.after (start c.formula.vars) bytes)
    all = ap (λ (u : W). p.said (start c.formula.vars) bytes ++ ending u) h.parser

    end_comes : come d.formula true bytes (fate_told d.outcome)
    end_comes =
        subst (λ (f : FormulaOf). come f true bytes (fate_told d.outcome)) (sym l.formula)
        (come_at_end c.formula bytes (fate_told d.outcome) (subst (λ (z : List S). m.begins c.formula z (fate_told d.outcome)) all (comes_told m p (start c.formula.vars) w c bytes h (ending w) d l nothing)))

    end_values : AreValuesTold d.formula (named d.formula.vars true bytes) d.bits d.outcome
    end_values =
        values_told m p (start c.formula.vars) w c bytes h (ending w) d l (named d.formula.vars true bytes)
        (ap (λ (z : List S). named_from unnamed (m.lits z)) all ∙ named_at_end c.formula bytes ∙ ap (λ (f : FormulaOf). named f.vars true bytes) (sym l.formula))

    pub took_end : come d.formula true bytes (fate_told d.outcome) × AreValuesTold d.formula (named d.formula.vars true bytes) d.bits d.outcome
    took_end = (end_comes, end_values)

-- where bytes were counted, and more are
counted : (taken : ℕ) (n : ℕ) (bytes piece : List ℕ) → n ≡ length bytes → taken ≡ n + length piece → taken ≡ length (bytes ++ piece)
counted taken n bytes piece e k = let q = length-append bytes piece in omega (arith, e, k, q)

-- DRUP text
drup_come : (ended : Bool) (f : FormulaOf) (bytes : List ℕ) (x : Option Fate) → drup.StreamFate f (drup_telling.spoken ended (drup_telling.fresh f.vars) bytes) x → drup.BytesFate f ended bytes x
drup_come ended f bytes x h = subst (λ (z : List Saying). drup.StreamFate f z x) (drup_streams.stream_spoken f.vars ended bytes) h

pub drup_took : (S : Type 0) (l k : LineOf DrupOf CheckerOf) (piece : List ℕ) → Heard drup_parsing drup_meaning l.parser l.certificate piece k.parser k.certificate → Took {S = S} (Drup l) piece (Drup k)
drup_took S l k piece g = (record { formula = g.leads.formula; kind = refl }, λ bytes (h, n). takes bytes h n)
  where
    values : (f : FormulaOf) (bytes : List ℕ) (bits : List Bool) (o : Option Outcome) → drup.BytesFate f false bytes (fate_told o)
        → AreValuesTold f (drup.values_said (drup_telling.spoken false (drup_telling.fresh f.vars) bytes)) bits o → AreValuesTold f (drup.values_named f.vars false bytes) bits o
    values f bytes bits o k v = subst (λ (z : List Saying). AreValuesTold f (drup.values_said z) bits o) (drup_streams.stream_spoken f.vars false bytes) v

    takes : (bytes : List ℕ) → AwaitsMore drup_parsing drup_meaning (drup_telling.fresh l.certificate.formula.vars) l.parser l.certificate bytes → l.parser.taken ≡ length bytes → Takes {S = S} (Drup k) (bytes ++ piece)
    takes bytes h n =
        let t = took drup_parsing drup_meaning drup_telling.fresh drup.BytesFate drup.values_named (λ f e x. refl) drup_cutting.said_append drup_cutting.after_append refl (drup_come false) values l.parser k.parser l.certificate k.certificate bytes piece h g in
        record { tells = record { comes = t.0; values = t.1 }; at = λ e. (t.2 e, counted k.parser.taken l.parser.taken bytes piece n (ap (λ (w : DrupOf). w.taken) (g.kept e) ∙ drup_cutting.after_taken l.parser piece)) }

pub drup_took_end : (S : Type 0) (l k : LineOf DrupOf CheckerOf) → Leads drup_meaning l.certificate (drup_ending l.parser) k.certificate → TookEnd {S = S} (Drup l) (Drup k)
drup_took_end S l k g = (
  record { formula = g.formula; kind = refl },
  λ bytes (h, n).
      let t = took_end drup_parsing drup_meaning drup_telling.fresh drup.BytesFate drup.values_named (λ f e x. refl) drup_ending (drup_come true) (λ f bytes. ap drup.values_said (drup_streams.stream_spoken f.vars true bytes)) l.parser l.certificate k.certificate bytes h g in
      record { comes = t.0; values = t.1 },
)

-- hinted text
lrat_come : (ended : Bool) (f : FormulaOf) (bytes : List ℕ) (x : Option Fate) → lrat.StreamFate f (lrat_telling.spoken ended (lrat_telling.fresh f.vars) bytes) x → lrat.BytesFate f ended bytes x
lrat_come ended f bytes x h = subst (λ (z : List LratSaying). lrat.StreamFate f z x) (lrat_streams.stream_spoken f.vars ended bytes) h

pub lrat_took : (S : Type 0) (l k : LineOf LratOf HintedOf) (piece : List ℕ) → Heard lrat_parsing lrat_meaning l.parser l.certificate piece k.parser k.certificate → Took {S = S} (Lrat l) piece (Lrat k)
lrat_took S l k piece g = (record { formula = g.leads.formula; kind = refl }, λ bytes (h, n). takes bytes h n)
  where
    values : (f : FormulaOf) (bytes : List ℕ) (bits : List Bool) (o : Option Outcome) → lrat.BytesFate f false bytes (fate_told o)
        → AreValuesTold f (lrat.values_said (lrat_telling.spoken false (lrat_telling.fresh f.vars) bytes)) bits o → AreValuesTold f (lrat.values_named f.vars false bytes) bits o
    values f bytes bits o k v = subst (λ (z : List LratSaying). AreValuesTold f (lrat.values_said z) bits o) (lrat_streams.stream_spoken f.vars false bytes) v

    takes : (bytes : List ℕ) → AwaitsMore lrat_parsing lrat_meaning (lrat_telling.fresh l.certificate.formula.vars) l.parser l.certificate bytes → l.parser.taken ≡ length bytes → Takes {S = S} (Lrat k) (bytes ++ piece)
    takes bytes h n =
        let t = took lrat_parsing lrat_meaning lrat_telling.fresh lrat.BytesFate lrat.values_named (λ f e x. refl) lrat_cutting.said_append lrat_cutting.after_append refl (lrat_come false) values l.parser k.parser l.certificate k.certificate bytes piece h g in
        record { tells = record { comes = t.0; values = t.1 }; at = λ e. (t.2 e, counted k.parser.taken l.parser.taken bytes piece n (ap (λ (w : LratOf). w.taken) (g.kept e) ∙ lrat_cutting.after_taken l.parser piece)) }

pub lrat_took_end : (S : Type 0) (l k : LineOf LratOf HintedOf) → Leads lrat_meaning l.certificate (lrat_ending l.parser) k.certificate → TookEnd {S = S} (Lrat l) (Lrat k)
lrat_took_end S l k g = (
  record { formula = g.formula; kind = refl },
  λ bytes (h, n).
      let t = took_end lrat_parsing lrat_meaning lrat_telling.fresh lrat.BytesFate lrat.values_named (λ f e x. refl) lrat_ending (lrat_come true) (λ f bytes. ap lrat.values_said (lrat_streams.stream_spoken f.vars true bytes)) l.parser l.certificate k.certificate bytes h g in
      record { comes = t.0; values = t.1 },
)

-- a proof file
or_some : (o : Option ParseFault) (f : ParseFault) → fault_or o (Some f) ≡ None → ⊥
or_some None f e = cc
or_some (Some g) f e = cc

text_taken : (w : DrupOf) (s : Bool) (r : Option ParseFault) (b : ℕ) → text_fault (text_next (text w s r) b) ≡ None → (text_next (text w s r) b).parser.taken ≡ w.taken + 1
text_taken w s (Some f) b e = absurd (or_some (fault_of w.mode) f e)
text_taken w s None b e =
    elim (cases_Bool (s && is_claim b)) [
      | inl t ↦ absurd (or_some (fault_of w.mode) (record { kind = BadLine; byte = w.taken }) (rw t at e))
      | inr n ↦ rw n refl
    ]

next_taken : (r : FileOf) (b : ℕ) → file.fault (file.next r b) ≡ None → file.taken_of (file.next r b) ≡ file.taken_of r + 1
next_taken (InText t) b e = text_taken t.parser t.starts t.refused b e
next_taken (InBinary w) b e = refl

none_before : (r : FileOf) (bytes : List ℕ) → file.fault (file.after r bytes) ≡ None → file.fault r ≡ None
none_before r bytes e = by (file.fault r) refl
  where
    by : (o : Option ParseFault) → file.fault r ≡ o → file.fault r ≡ None
    by None h = h
    by (Some f) h = absurd (let k = sym (fault_stays r bytes f h) ∙ e in cc)

after_taken : (r : FileOf) (bytes : List ℕ) → file.fault (file.after r bytes) ≡ None → file.taken_of (file.after r bytes) ≡ file.taken_of r + length bytes
after_taken r [] e = omega arith
after_taken r (b ∷ bytes) e =
    let k = after_taken (file.next r b) bytes e in
    let n = next_taken r b (none_before (file.next r b) bytes e) in
    omega (arith, k, n)

module _ (form : Form) where
  nothing : (f : FormulaOf) (e : CheckerOf) (x : Assignment) → drup.SayingsFate f.clauses e.clauses x [] None
  nothing f e x = refl

  come : (f : FormulaOf) (bytes : List ℕ) (x : Option Fate) → drup.StreamFate f (file.spoken false (file.fresh form f.vars) bytes) x → proof_file.BytesFate form f false bytes x
  come f bytes x h = spoken_lines form f bytes x h

  values : (f : FormulaOf) (bytes : List ℕ) (bits : List Bool) (o : Option Outcome) → proof_file.BytesFate form f false bytes (fate_told o)
      → AreValuesTold f (drup.values_said (file.spoken false (file.fresh form f.vars) bytes)) bits o → AreValuesTold f unnamed bits o
  values f bytes bits None k v = tt
  values f bytes bits (Some Refuted) k v = tt
  values f bytes bits (Some Satisfied) k v = absurd (file_never form f false bytes k)
  values f bytes bits (Some Unknown) k v = tt
  values f bytes bits (Some (Bad b)) k v = tt

  module _ (l k : LineOf FileOf CheckerOf) (piece bytes : List ℕ) (g : Heard file_parsing drup_meaning l.parser l.certificate piece k.parser k.certificate) (h : AwaitsMore file_parsing drup_meaning (file.fresh form l.certificate.formula.vars) l.parser l.certificate bytes) where
    pub file_took : proof_file.BytesFate form k.certificate.formula false (bytes ++ piece) (fate_told k.certificate.outcome) × AreValuesTold k.certificate.formula unnamed k.certificate.bits k.certificate.outcome
        × (k.certificate.outcome ≡ None → AwaitsMore file_parsing drup_meaning (file.fresh form k.certificate.formula.vars) k.parser k.certificate (bytes ++ piece))
    file_took =
        took file_parsing drup_meaning (file.fresh form) (proof_file.BytesFate form) (λ vars ended bytes. unnamed) nothing file_cutting.said_append file_cutting.after_append refl come values l.parser k.parser l.certificate k.certificate bytes piece h g

    pub file_took_count : k.certificate.outcome ≡ None → file.taken_of l.parser ≡ length bytes → file.taken_of k.parser ≡ length (bytes ++ piece)
    file_took_count e n = counted (file.taken_of k.parser) (file.taken_of l.parser) bytes piece n (ap file.taken_of (g.kept e) ∙ after_taken l.parser piece (g.whole e))

pub proof_took : (S : Type 0) (l k : LineOf FileOf CheckerOf) (piece : List ℕ) → Heard file_parsing drup_meaning l.parser l.certificate piece k.parser k.certificate → Took {S = S} (Proof l) piece (Proof k)
proof_took S l k piece g = (
  record { formula = g.leads.formula; kind = refl },
  λ bytes (h, n).
      let t = file_took Text l k piece bytes g h in
      record { tells = record { comes = t.0; values = t.1 }; at = λ e. (t.2 e, file_took_count Text l k piece bytes g h e n) },
)

pub binary_took : (S : Type 0) (l k : LineOf FileOf CheckerOf) (piece : List ℕ) → Heard file_parsing drup_meaning l.parser l.certificate piece k.parser k.certificate → Took {S = S} (ProofBinary l) piece (ProofBinary k)
binary_took S l k piece g = (
  record { formula = g.leads.formula; kind = refl },
  λ bytes (h, n).
      let t = file_took Binary l k piece bytes g h in
      record { tells = record { comes = t.0; values = t.1 }; at = λ e. (t.2 e, file_took_count Binary l k piece bytes g h e n) },
)
