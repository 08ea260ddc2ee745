-- A parser and a certificate of some kind, and what they make of bytes.
use Rattle.std.specs.Prelude.{◌≡◌, ℕ, ◌+◌, ◌<◌, ◌≤◌, Bool, true, false, List, [], ◌++◌, length, take, Option, Some, None, ◌⊎◌}
use Rattle.cnf_form.specs.Cnf.{Assignment, FormulaOf, Satisfies}
use Rattle.cert_stream.specs.Telling as drup_telling
use Rattle.cert_stream.specs.LratTelling as lrat_telling
use Rattle.proof_stream.specs.File as file
use Rattle.proof_stream.specs.declared.spot.Form.TheVariants.{Text, Binary}
use Rattle.cert_judge.specs.Certificate.{LineOf, outcome_or}
use Rattle.cert_judge.specs.Kinds.{BytesFate, values_named}
use Rattle.cert_judge.specs.Leading.{AwaitsMore}
use Rattle.cert_judge.specs.Outcomes.{fate_told}
use Rattle.cert_judge.specs.Reading.{drup_meaning, drup_parsing, file_parsing, lrat_meaning, lrat_parsing}
use Rattle.cert_judge.specs.Values.{values_of}
use Rattle.cert_judge.specs.declared.lines.Lines.{Lines}
use Rattle.cert_judge.specs.declared.lines.Lines.TheVariants.{Drup, Lrat, Proof, ProofBinary}
use Rattle.cert_judge.specs.declared.stream.CertKind.TheVariants.{TooLong, EarlyEnd}
use Rattle.cert_judge.specs.declared.stream.Outcome.{Outcome}
use Rattle.cert_judge.specs.declared.stream.Outcome.TheVariants.{Refuted, Satisfied, Unknown as IsUnknown, Bad as IsBad}
use Rattle.cert_judge.specs.declared.stream.StreamKind.{StreamKind}
use Rattle.cert_judge.specs.declared.stream.StreamKind.TheVariants.{Drup as DrupKind, Lrat as LratKind, Proof as ProofKind, ProofBinary as ProofBinaryKind}

abbrev pub lines_kind : {S : Type 0} → Lines S → StreamKind
lines_kind (Drup l) = DrupKind
lines_kind (Lrat l) = LratKind
lines_kind (Proof l) = ProofKind
lines_kind (ProofBinary l) = ProofBinaryKind

abbrev pub lines_formula : {S : Type 0} → Lines S → FormulaOf
lines_formula (Drup l) = l.certificate.formula
lines_formula (Lrat l) = l.certificate.formula
lines_formula (Proof l) = l.certificate.formula
lines_formula (ProofBinary l) = l.certificate.formula

abbrev pub lines_outcome : {S : Type 0} → Lines S → Option Outcome
lines_outcome (Drup l) = l.certificate.outcome
lines_outcome (Lrat l) = l.certificate.outcome
lines_outcome (Proof l) = l.certificate.outcome
lines_outcome (ProofBinary l) = l.certificate.outcome

abbrev pub lines_bits : {S : Type 0} → Lines S → List Bool
lines_bits (Drup l) = l.certificate.bits
lines_bits (Lrat l) = l.certificate.bits
lines_bits (Proof l) = l.certificate.bits
lines_bits (ProofBinary l) = l.certificate.bits

-- how many bytes the parser took
abbrev pub lines_taken : {S : Type 0} → Lines S → ℕ
lines_taken (Drup l) = l.parser.taken
lines_taken (Lrat l) = l.parser.taken
lines_taken (Proof l) = file.taken_of l.parser
lines_taken (ProofBinary l) = file.taken_of l.parser

-- the parser reads literals of the formula's variables
abbrev pub Fits : {S : Type 0} → Lines S → Type 0
Fits (Drup l) = l.certificate.formula.vars ≡ l.parser.vars
Fits (Lrat l) = l.certificate.formula.vars ≡ l.parser.vars
Fits (Proof l) = l.certificate.formula.vars ≡ file.vars_of l.parser
Fits (ProofBinary l) = l.certificate.formula.vars ≡ file.vars_of l.parser

-- an outcome where there is none
abbrev pub line_or : {W C : Type 0} → LineOf W C → Outcome → LineOf W C
line_or l o = record { parser = l.parser; certificate = outcome_or l.certificate l.certificate.outcome o }

abbrev pub lines_or : {S : Type 0} → Lines S → Outcome → Lines S
lines_or (Drup l) o = Drup (line_or l o)
lines_or (Lrat l) o = Lrat (line_or l o)
lines_or (Proof l) o = Proof (line_or l o)
lines_or (ProofBinary l) o = ProofBinary (line_or l o)

-- the same formula and kind
pub record IsSameLines {S : Type 0} (old new : Lines S) : Type 0 where
  pub formula : lines_formula new ≡ lines_formula old
  pub kind : lines_kind new ≡ lines_kind old

-- where the outcome is Satisfied, the values, one for each variable, are x, and they satisfy the formula
abbrev pub AreValuesOf : FormulaOf → Assignment → List Bool → Outcome → Type 0
AreValuesOf f x bits Refuted = Unit {0}
AreValuesOf f x bits Satisfied = (length bits ≡ f.vars + 1) × (values_of bits ≡ x) × Satisfies (values_of bits) f.clauses
AreValuesOf f x bits IsUnknown = Unit {0}
AreValuesOf f x bits (IsBad b) = Unit {0}

abbrev pub AreValuesTold : FormulaOf → Assignment → List Bool → Option Outcome → Type 0
AreValuesTold f x bits None = Unit {0}
AreValuesTold f x bits (Some o) = AreValuesOf f x bits o

-- the bytes, all of which were taken, are undecided, and no fault is in them
abbrev pub LinesAwaitMore : {S : Type 0} → Lines S → List ℕ → Type 0
LinesAwaitMore (Drup l) bytes = AwaitsMore drup_parsing drup_meaning (drup_telling.fresh l.certificate.formula.vars) l.parser l.certificate bytes × (l.parser.taken ≡ length bytes)
LinesAwaitMore (Lrat l) bytes = AwaitsMore lrat_parsing lrat_meaning (lrat_telling.fresh l.certificate.formula.vars) l.parser l.certificate bytes × (l.parser.taken ≡ length bytes)
LinesAwaitMore (Proof l) bytes = AwaitsMore file_parsing drup_meaning (file.fresh Text l.certificate.formula.vars) l.parser l.certificate bytes × (file.taken_of l.parser ≡ length bytes)
LinesAwaitMore (ProofBinary l) bytes = AwaitsMore file_parsing drup_meaning (file.fresh Binary l.certificate.formula.vars) l.parser l.certificate bytes × (file.taken_of l.parser ≡ length bytes)

-- before the first byte
pub record Starts {S : Type 0} (f : FormulaOf) (k : StreamKind) (lines : Lines S) : Type 0 where
  pub formula : lines_formula lines ≡ f
  pub kind : lines_kind lines ≡ k
  pub at : LinesAwaitMore lines []
  pub undecided : lines_outcome lines ≡ None
  pub fits : Fits lines
  pub taken : lines_taken lines ≡ 0

-- The outcome is the fate of the bytes, with the values that they name; they are all where they ended.
pub record Tells {S : Type 0} (ended : Bool) (lines : Lines S) (bytes : List ℕ) : Type 0 where
  pub comes : BytesFate (lines_kind lines) (lines_formula lines) ended bytes (fate_told (lines_outcome lines))
  pub values : AreValuesTold (lines_formula lines) (values_named (lines_kind lines) (lines_formula lines).vars ended bytes) (lines_bits lines) (lines_outcome lines)

-- bytes were taken after others
pub record Takes {S : Type 0} (lines : Lines S) (bytes : List ℕ) : Type 0 where
  pub tells : Tells false lines bytes
  pub at : lines_outcome lines ≡ None → LinesAwaitMore lines bytes

abbrev pub Took : {S : Type 0} → Lines S → List ℕ → Lines S → Type 0
Took old piece new = IsSameLines old new × ((bytes : List ℕ) → LinesAwaitMore old bytes → Takes new (bytes ++ piece))

-- a piece is taken as far as there is room for it; what is too much is an outcome where there is no other
abbrev pub TakesPiece : {S : Type 0} → ℕ → ℕ → Lines S → List ℕ → Lines S → Type 0
TakesPiece {S} most room old piece new =
    ((length piece ≤ room) × Took old piece new)
    ⊎ ((lines : Lines S) × (room < length piece) × Took old (take room piece) lines × (new ≡ lines_or lines (IsBad (record { kind = TooLong; at = most }))))

-- the stream's end was taken
abbrev pub TookEnd : {S : Type 0} → Lines S → Lines S → Type 0
TookEnd old new = IsSameLines old new × ((bytes : List ℕ) → LinesAwaitMore old bytes → Tells true new bytes)

-- without an outcome it is too early
abbrev pub TakesEnd : {S : Type 0} → Lines S → Lines S → Type 0
TakesEnd {S} old new = (lines : Lines S) × TookEnd old lines × (new ≡ lines_or lines (IsBad (record { kind = EarlyEnd; at = lines_taken old })))
