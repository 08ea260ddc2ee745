-- The table of kinds: the fate of a stream of each kind.
use Rattle.std.specs.Prelude.{ℕ, Bool, ◌&&◌, leb, List, length, take, Option}
use Rattle.cnf_form.specs.Cnf.{Assignment, FormulaOf}
use Rattle.cnf_form.specs.Dimacs.{IsDimacs}
use Rattle.proof_stream.specs.declared.spot.Form.TheVariants.{Text, Binary}
use Rattle.cert_judge.specs.Drup as drup
use Rattle.cert_judge.specs.Lrat as lrat
use Rattle.cert_judge.specs.ProofFile as proof_file
use Rattle.cert_judge.specs.Fate.{Fate, FateBy, FateSoFarBy}
use Rattle.cert_judge.specs.Values.{unnamed}
use Rattle.cert_judge.specs.declared.stream.StreamKind.{StreamKind}
use Rattle.cert_judge.specs.declared.stream.StreamKind.TheVariants.{Drup, Lrat, Proof, ProofBinary}

-- the fate of a stream's bytes by its kind, as a certificate of a formula; they are all where it ended
abbrev pub BytesFate : StreamKind → FormulaOf → Bool → List ℕ → Option Fate → Type 0
BytesFate Drup = drup.BytesFate
BytesFate Lrat = lrat.BytesFate
BytesFate Proof = proof_file.BytesFate Text
BytesFate ProofBinary = proof_file.BytesFate Binary

-- the values that they name; a proof file names none
abbrev pub values_named : StreamKind → ℕ → Bool → List ℕ → Assignment
values_named Drup = drup.values_named
values_named Lrat = lrat.values_named
values_named Proof = λ vars ended bytes. unnamed
values_named ProofBinary = λ vars ended bytes. unnamed

-- the fate of these bytes of a stream, `most` of them at most: where more may follow
abbrev pub FateSoFar : StreamKind → FormulaOf → List ℕ → ℕ → Option Fate → Type 0
FateSoFar kind f = FateSoFarBy (BytesFate kind f)

-- and where the stream ends with them
abbrev pub FateOf : StreamKind → FormulaOf → List ℕ → ℕ → Fate → Type 0
FateOf kind f = FateBy (BytesFate kind f)

-- the fate so far of the bytes of a stream of a kind, as a certificate of the formula that the bytes of a job's file are
abbrev pub IsFateSoFar : StreamKind → List ℕ → List ℕ → ℕ → Option Fate → Type 0
IsFateSoFar kind job bytes most fate = (f : FormulaOf) × IsDimacs job f × FateSoFar kind f bytes most fate

-- the fate of a whole stream of a kind
abbrev pub IsFate : StreamKind → List ℕ → List ℕ → ℕ → Fate → Type 0
IsFate kind job stream most fate = (f : FormulaOf) × IsDimacs job f × FateOf kind f stream most fate

-- the values that the bytes of a stream name, `most` of them at most: where it ends with them, or where more may follow
abbrev pub stream_values : StreamKind → ℕ → Bool → List ℕ → ℕ → Assignment
stream_values kind vars ended bytes most = values_named kind vars (ended && leb (length bytes) most) (take most bytes)
