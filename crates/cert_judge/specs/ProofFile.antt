-- The fate of a proof file: a proof, or why it is none.
use Rattle.std.specs.Prelude.{◌≡◌, ◌⊎◌, ℕ, Bool, true, false, cond, eqb, List, [], ◌∷◌, ◌++◌, length, Option, Some, None}
use Rattle.cnf_form.specs.Cnf.{FormulaOf}
use Rattle.cert_stream.specs.Telling.{Saying, IsClause}
use Rattle.proof_stream.specs.Lines.{FileSays}
use Rattle.proof_stream.specs.declared.spot.Form.{Form}
use Rattle.cert_judge.specs.Drup.{StreamFate}
use Rattle.cert_judge.specs.Fate.{Fate, Found, Unknown, Bad}
use Rattle.cert_judge.specs.declared.stream.CertKind.TheVariants.{EarlyEnd}

-- the file's end, byte number n, tries a last empty clause
abbrev pub tried : ℕ → List Saying → List Saying
tried n ss = ss ++ IsClause [] n ∷ []

-- what is bad only there is an early end
abbrev pub at_end : ℕ → Fate → Fate
at_end n (Found answer) = Found answer
at_end n Unknown = Unknown
at_end n (Bad kind byte) = cond (eqb byte n) (Bad EarlyEnd n) (Bad kind byte)

-- the fate of a file's lines, which is that of the same lines of a stream: where more may follow
abbrev pub LinesFate : Form → FormulaOf → List ℕ → Option Fate → Type 0
LinesFate form f bytes fate = (ss : List Saying) × FileSays form f.vars false bytes ss × StreamFate f ss fate

-- what the file's end makes of them
abbrev pub EndFate : Form → FormulaOf → List ℕ → Fate → Type 0
EndFate form f bytes fate =
    (ss : List Saying) × (x : Fate) × FileSays form f.vars true bytes ss × StreamFate f (tried (length bytes) ss) (Some x) × (fate ≡ at_end (length bytes) x)

-- The fate of the bytes of a proof file, which are all where it ended: that of its lines, or where they are undecided that of its end.
abbrev pub BytesFate : Form → FormulaOf → Bool → List ℕ → Option Fate → Type 0
BytesFate form f false bytes fate = LinesFate form f bytes fate
BytesFate form f true bytes None = ⊥
BytesFate form f true bytes (Some fate) = LinesFate form f bytes (Some fate) ⊎ (LinesFate form f bytes None × EndFate form f bytes fate)
