-- What sayings make of a certificate.
use Rattle.std.specs.Prelude.{◌≡◌, ℕ, ◌+◌, cond, eqb, List, [], ◌∷◌, ◌++◌, length, Option, Some, None, Result, Ok, Err}
use Rattle.cnf_form.specs.Cnf.{Assignment, Satisfies}
use Rattle.cert_stream.specs.Machine as drup_machine
use Rattle.cert_stream.specs.Machine.{DrupOf}
use Rattle.cert_stream.specs.Telling as drup_telling
use Rattle.cert_stream.specs.Telling.{Saying, IsClause}
use Rattle.cert_stream.specs.LratMachine as lrat_machine
use Rattle.cert_stream.specs.LratMachine.{LratOf}
use Rattle.cert_stream.specs.LratTelling as lrat_telling
use Rattle.cert_stream.specs.LratTelling.{LratSaying}
use Rattle.cert_stream.specs.declared.feeding.Fed.{Fed}
use Rattle.cert_stream.specs.declared.mode.ParseFault.{ParseFault}
use Rattle.cert_judge.specs.Certificate.{CertificateOf, with_outcome}
use Rattle.cert_judge.specs.Values.{named_from, unnamed, values_of}
use Rattle.cert_judge.specs.Fate.{Fate, cert_kind}
use Rattle.cert_judge.specs.Outcomes.{fate_of}
use Rattle.cert_judge.specs.Reading.{Meaning, Parsing, drup_meaning}
use Rattle.cert_judge.specs.declared.stream.CertKind.TheVariants.{EarlyEnd}
use Rattle.drup_check.specs.Checking.{CheckerOf}
use Rattle.proof_stream.specs.File.{FileOf, end_fault, end_says, taken_of}
use Rattle.cert_judge.specs.declared.stream.Outcome.{Outcome}
use Rattle.cert_judge.specs.declared.stream.Outcome.TheVariants.{Refuted, Satisfied, Unknown as UnknownOutcome, Bad}

-- the fate of more sayings, from the certificate on
abbrev pub FateFrom : {S C : Type 0} → Meaning S C → CertificateOf C → Option Outcome → List S → Option Fate → Type 0
FateFrom m c None ss fate = m.comes c.formula c.checker (values_of c.bits) ss fate
FateFrom m c (Some o) ss fate = fate ≡ Some (fate_of o)

-- and the values that they name
abbrev pub NamesBy : {S C : Type 0} → Meaning S C → CertificateOf C → Option Outcome → List S → Assignment → Type 0
NamesBy m c None ss x = named_from (values_of c.bits) (m.lits ss) ≡ x
NamesBy m c (Some o) ss x = (o ≡ Satisfied) × (values_of c.bits ≡ x)

-- The sayings lead from the one certificate to the other: the fate of more sayings from there is the fate of all.
pub record Leads {S C : Type 0} (m : Meaning S C) (old : CertificateOf C) (ss : List S) (new : CertificateOf C) : Type 0 where
  pub formula : new.formula ≡ old.formula
  pub size : length new.bits ≡ length old.bits
  pub fate : (rest : List S) (fate : Option Fate) → FateFrom m new new.outcome rest fate → m.comes old.formula old.checker (values_of old.bits) (ss ++ rest) fate
  pub values : (rest : List S) (x : Assignment) → NamesBy m new new.outcome rest x → named_from (values_of old.bits) (m.lits (ss ++ rest)) ≡ x
  pub satisfied : new.outcome ≡ Some Satisfied → Satisfies (values_of new.bits) new.formula.clauses

-- a certificate without an outcome hears a saying
abbrev pub Hears : {S C : Type 0} → Meaning S C → CertificateOf C → S → CertificateOf C → Type 0
Hears m old s new = old.outcome ≡ None → Leads m old (s ∷ []) new

-- a fault is an outcome
abbrev pub concluded : {C : Type 0} → CertificateOf C → Result Fed ParseFault → CertificateOf C
concluded c (Ok fed) = c
concluded c (Err f) = with_outcome c (Bad (record { kind = cert_kind f.kind; at = f.byte }))

-- The bytes, after those that the parser w stands for, lead with the fault that they have to the new certificate; and where that has no
-- outcome, the parser stands for all.
pub record Heard {W S C : Type 0} (p : Parsing W S) (m : Meaning S C) (w : W) (old : CertificateOf C) (bytes : List ℕ) (v : W) (new : CertificateOf C) : Type 0 where
  pub leads : Leads m old (p.said w bytes ++ m.fault_said (p.fault (p.after w bytes))) new
  pub kept : new.outcome ≡ None → v ≡ p.after w bytes
  pub whole : new.outcome ≡ None → p.fault (p.after w bytes) ≡ None

-- what the end of a stream says, with the fault if there is one
abbrev pub drup_ending : DrupOf → List Saying
drup_ending w = drup_telling.told_by w (drup_machine.at_end w.mode) ++ drup_telling.fault_said (drup_machine.fault_of w.mode)

abbrev pub lrat_ending : LratOf → List LratSaying
lrat_ending w = lrat_telling.told_by w (lrat_machine.at_end w.mode) ++ lrat_telling.fault_said (lrat_machine.fault_of w.mode)

abbrev pub file_ending : FileOf → List Saying
file_ending w = end_says w ++ drup_telling.fault_said (end_fault w)

-- an empty clause is heard where there is no outcome yet
abbrev pub Tries : CertificateOf CheckerOf → Option Outcome → ℕ → CertificateOf CheckerOf → Type 0
Tries old None place new = Leads drup_meaning old (IsClause [] place ∷ []) new × ((o : Outcome) × (new.outcome ≡ Some o))
Tries old (Some o) place new = new ≡ old

-- what is bad at byte number n, where a file ends, is an early end
abbrev pub ended_at : ℕ → CertificateOf CheckerOf → Option Outcome → CertificateOf CheckerOf
ended_at n c None = c
ended_at n c (Some Refuted) = c
ended_at n c (Some Satisfied) = c
ended_at n c (Some UnknownOutcome) = c
ended_at n c (Some (Bad b)) = cond (eqb b.at n) (with_outcome c (Bad (record { kind = EarlyEnd; at = n }))) c

-- a file's end is heard, and a last empty clause where there is no outcome then
pub record HasEnded (w : FileOf) (old new : CertificateOf CheckerOf) : Type 0 where
  pub lines : CertificateOf CheckerOf
  pub tried : CertificateOf CheckerOf
  pub leads : Leads drup_meaning old (file_ending w) lines
  pub tries : Tries lines lines.outcome (taken_of w) tried
  pub ended : new ≡ ended_at (taken_of w) tried tried.outcome

-- The bytes are undecided, and no fault is in them: the parser is what it is after them, and whatever more is said has from the
-- certificate on the fate that it has after all that they say.
pub record AwaitsMore {W S C : Type 0} (p : Parsing W S) (m : Meaning S C) (start w : W) (c : CertificateOf C) (bytes : List ℕ) : Type 0 where
  pub parser : w ≡ p.after start bytes
  pub whole : p.fault w ≡ None
  pub undecided : c.outcome ≡ None
  pub size : length c.bits ≡ c.formula.vars + 1
  pub fate : (rest : List S) (fate : Option Fate) → m.comes c.formula c.checker (values_of c.bits) rest fate → m.begins c.formula (p.said start bytes ++ rest) fate
  pub values : (rest : List S) → named_from (values_of c.bits) (m.lits rest) ≡ named_from unnamed (m.lits (p.said start bytes ++ rest))
