-- Certificates of every kind, and the streams that begin with one.
use Rattle.std.specs.Prelude.{◌≡◌, ◌⊎◌, ℕ, ◌<◌, ◌≤◌, true, List, [], ◌∷◌, ◌++◌, length}
use Rattle.cnf_form.specs.Cnf.{LitOf, FormulaOf, IsAdmitted}
use Rattle.cnf_form.specs.Dimacs.{IsDimacs}
use Rattle.cert_stream.specs.Text.{is_blank}
use Rattle.proof_stream.specs.Lines.{HasClaim}
use Rattle.sby_terms.specs.declared.names.Answer.{Answer}
use Rattle.sby_terms.specs.declared.names.Answer.TheVariants.{Unsat}
use Rattle.cert_judge.specs.BinaryCert.{IsRefutation}
use Rattle.cert_judge.specs.DrupCert as drup
use Rattle.cert_judge.specs.DrupCert.{Leads, lines}
use Rattle.cert_judge.specs.LratCert as lrat
use Rattle.cert_judge.specs.declared.stream.StreamKind.{StreamKind}
use Rattle.cert_judge.specs.declared.stream.StreamKind.TheVariants.{Drup, Lrat, Proof, ProofBinary}

-- A certificate that ends with its own last 0. A proof file in text is one without lines of s and v; a binary one is a refutation and the
-- line of the empty clause.
abbrev pub IsClosedCert : StreamKind → FormulaOf → List ℕ → Answer → Type 0
IsClosedCert Drup f cert answer = drup.IsCertOf f cert answer
IsClosedCert Lrat f cert answer = lrat.IsCertOf f cert answer
IsClosedCert Proof f cert answer = (answer ≡ Unsat) × (HasClaim cert → ⊥) × drup.IsCertOf f cert Unsat
IsClosedCert ProofBinary f cert answer = (answer ≡ Unsat) × ((front : List ℕ) × (cert ≡ front ++ 97 ∷ 0 ∷ []) × IsRefutation f front)

-- A proof file, whose end tries the empty clause: its lines lead to clauses where that is admitted. Streams of other kinds have no such end.
abbrev pub IsOpenCert : StreamKind → FormulaOf → List ℕ → Answer → Type 0
IsOpenCert Drup f file answer = ⊥
IsOpenCert Lrat f file answer = ⊥
IsOpenCert Proof f file answer = (answer ≡ Unsat) × (HasClaim file → ⊥) × ((G : List (List LitOf)) × Leads f.vars (lines file) f.clauses G × IsAdmitted G [])
IsOpenCert ProofBinary f file answer = (answer ≡ Unsat) × IsRefutation f file

-- white space or a line feed
abbrev pub IsSpace : ℕ → Type 0
IsSpace b = (is_blank b ≡ true) ⊎ (b ≡ 10)

-- a certificate counts, of `most` bytes at most, where it ends in text once white space or a line feed follows, or where the stream ends
abbrev pub Counts : StreamKind → ℕ → List ℕ → List ℕ → Type 0
Counts Drup most cert [] = length cert ≤ most
Counts Drup most cert (b ∷ rest) = IsSpace b × (length cert < most)
Counts Lrat most cert [] = length cert ≤ most
Counts Lrat most cert (b ∷ rest) = IsSpace b × (length cert < most)
Counts Proof most cert [] = length cert ≤ most
Counts Proof most cert (b ∷ rest) = IsSpace b × (length cert < most)
Counts ProofBinary most cert rest = length cert ≤ most

-- a stream of a kind begins with a certificate that counts, whatever comes then, or is a proof file that its end completes
abbrev pub BeginsCert : StreamKind → FormulaOf → List ℕ → ℕ → Answer → Type 0
BeginsCert kind f stream most answer =
    ((cert : List ℕ) × (rest : List ℕ) × (stream ≡ cert ++ rest) × IsClosedCert kind f cert answer × Counts kind most cert rest) ⊎ (IsOpenCert kind f stream answer × (length stream ≤ most))

-- so, of the formula that the bytes of a job's file are
abbrev pub HoldsCert : StreamKind → List ℕ → List ℕ → ℕ → Answer → Type 0
HoldsCert kind job stream most answer = (f : FormulaOf) × IsDimacs job f × BeginsCert kind f stream most answer
