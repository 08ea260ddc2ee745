-- What the lines of a proof file say.
use Rattle.std.specs.Prelude.{◌≡◌, ℕ, Bool, true, false, cond, eqb, leb, List, [], ◌∷◌, ◌++◌, length, slice_index, Option, Some, None}
use Rattle.cnf_form.specs.Cnf.{LitOf}
use Rattle.cnf_form.specs.Coding.{lit_from}
use Rattle.cert_stream.specs.Text.{AreBlank}
use Rattle.cert_stream.specs.Places.{AreLines}
use Rattle.cert_stream.specs.Stream.{bad, sayings}
use Rattle.cert_stream.specs.Telling.{Saying, IsClause, IsDelete, IsValue, IsValuesEnd, IsUnknown, IsFault}
use Rattle.cert_stream.specs.declared.mode.ParseFaultKind.TheVariants.{BadLine}
use Rattle.proof_stream.specs.Text.{is_claim}
use Rattle.proof_stream.specs.Numbers.{NumberOf, Goes, Whole, Unfit, groups_read, numbers_from}
use Rattle.proof_stream.specs.Binary.{line_said}
use Rattle.proof_stream.specs.declared.spot.LineKind.{LineKind}
use Rattle.proof_stream.specs.declared.spot.LineKind.TheVariants.{Clause, Deletion}
use Rattle.proof_stream.specs.declared.spot.Form.{Form}
use Rattle.proof_stream.specs.declared.spot.Form.TheVariants.{Text as TextForm, Binary as BinaryForm}

-- whole lines, then white space alone: what may stand before a line's first visible byte
abbrev pub IsLineHead : List ℕ → Type 0
IsLineHead front = (lines : List ℕ) × (blanks : List ℕ) × (front ≡ lines ++ blanks) × AreLines lines × AreBlank blanks

-- some line begins with s or v
abbrev pub HasClaim : List ℕ → Type 0
HasClaim bytes = (front : List ℕ) × (b : ℕ) × (rest : List ℕ) × (bytes ≡ front ++ b ∷ rest) × IsLineHead front × (is_claim b ≡ true)

-- no more is said after a fault
abbrev pub up_to_fault : List Saying → List Saying
up_to_fault [] = []
up_to_fault (IsClause lits place ∷ ss) = IsClause lits place ∷ up_to_fault ss
up_to_fault (IsDelete lits ∷ ss) = IsDelete lits ∷ up_to_fault ss
up_to_fault (IsValue l ∷ ss) = IsValue l ∷ up_to_fault ss
up_to_fault (IsValuesEnd ∷ ss) = IsValuesEnd ∷ up_to_fault ss
up_to_fault (IsUnknown ∷ ss) = IsUnknown ∷ up_to_fault ss
up_to_fault (IsFault f ∷ ss) = IsFault f ∷ []

-- A proof file in text is a stream without lines of s and v: the first such line is BadLine at its first visible byte.
pub data TextSays (vars : ℕ) (bytes : List ℕ) (ss : List Saying) : Type 0 where
  Plain : (HasClaim bytes → ⊥) → ss ≡ sayings vars false bytes → TextSays vars bytes ss
  Refused : (front : List ℕ) (b : ℕ) (rest : List ℕ) → bytes ≡ front ++ b ∷ rest → IsLineHead front → is_claim b ≡ true → (HasClaim front → ⊥)
      → ss ≡ up_to_fault (sayings vars false front ++ bad BadLine (length front)) → TextSays vars bytes ss

-- a line's kind, its place and its literals so far
pub record LineOf : Type 0 where
  pub kind : LineKind
  pub place : ℕ
  pub lits : List LitOf

abbrev pub opened : LineKind → ℕ → Option LineOf
opened kind place = Some (record { kind = kind; place = place; lits = [] })

-- What the numbers of a binary proof say, after those of the line that stands open: a or d begins a line, then come its literals, at most
-- `vars` of them, and 0 ends it. `unended` is said where the numbers end within a line.
abbrev pub numbers_say : ℕ → List Saying → Option LineOf → List NumberOf → List Saying
numbers_say vars unended None [] = []
numbers_say vars unended (Some l) [] = unended
numbers_say vars unended None (n ∷ ns) =
    cond (eqb (slice_index n.groups 0) 97) (numbers_say vars unended (opened Clause n.place) ns)
    (cond (eqb (slice_index n.groups 0) 100) (numbers_say vars unended (opened Deletion n.place) ns) (bad BadLine n.place))
numbers_say vars unended (Some l) (n ∷ ns) =
    cond (eqb (slice_index n.groups 0) 0) (line_said l.kind l.place l.lits ∷ numbers_say vars unended None ns)
    (elim (groups_read vars (leb vars (length l.lits)) 0 1 n.groups) [
      | Goes v w ↦ unended
      | Whole k ↦ numbers_say vars unended (Some (record l { lits = l.lits ++ lit_from k ∷ [] })) ns
      | Unfit kind ↦ bad kind n.place
    ])

-- what the bytes of a proof file say, up to the first fault: where it ends with them, or where more may follow
abbrev pub FileSays : Form → ℕ → Bool → List ℕ → List Saying → Type 0
FileSays TextForm vars ended bytes ss = TextSays vars (cond ended (bytes ++ 10 ∷ []) bytes) ss
FileSays BinaryForm vars ended bytes ss = ss ≡ numbers_say vars (cond ended (bad BadLine (length bytes)) []) None (numbers_from 0 [] bytes)

-- clauses, deletions and faults alone
abbrev pub AreProofLines : List Saying → Type 0
AreProofLines [] = Unit {0}
AreProofLines (IsClause lits place ∷ ss) = AreProofLines ss
AreProofLines (IsDelete lits ∷ ss) = AreProofLines ss
AreProofLines (IsValue l ∷ ss) = ⊥
AreProofLines (IsValuesEnd ∷ ss) = ⊥
AreProofLines (IsUnknown ∷ ss) = ⊥
AreProofLines (IsFault f ∷ ss) = AreProofLines ss
