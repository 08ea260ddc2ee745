-- A judge of a stream, and what its answers tell.
use Rattle.std.specs.Prelude.{◌≡◌, ℕ, ◌≤◌, Bool, true, false, List, length, Option, Some, None}
use Rattle.cnf_form.specs.Cnf.{FormulaOf, IsUnsatisfiable}
use Rattle.cnf_form.specs.Dimacs.{IsDimacs}
use Rattle.cert_judge.specs.Kinds.{FateOf, FateSoFar, IsFate, IsFateSoFar, stream_values}
use Rattle.cert_judge.specs.Lines.{AreValuesOf, AreValuesTold, LinesAwaitMore, lines_bits, lines_formula, lines_kind, lines_outcome}
use Rattle.cert_judge.specs.Outcomes.{fate_of, fate_told}
use Rattle.cert_judge.specs.declared.lines.Lines.{Lines}
use Rattle.cert_judge.specs.declared.stream.Outcome.{Outcome}
use Rattle.cert_judge.specs.declared.stream.Outcome.TheVariants.{Refuted}
use Rattle.cert_judge.specs.declared.stream.StreamKind.{StreamKind}

-- what is kept of the bytes so far, the greatest number of bytes, and whether memory ran out
pub record JudgeOf (S : Type 0) : Type 0 where
  pub lines : Lines S
  pub most : ℕ
  pub wanting : Bool

-- the kind that is judged, the formula, the outcome once there is one, and the values so far
abbrev pub kind_of : {S : Type 0} → JudgeOf S → StreamKind
kind_of j = lines_kind j.lines

abbrev pub formula_of : {S : Type 0} → JudgeOf S → FormulaOf
formula_of j = lines_formula j.lines

abbrev pub outcome_of : {S : Type 0} → JudgeOf S → Option Outcome
outcome_of j = lines_outcome j.lines

abbrev pub bits_of : {S : Type 0} → JudgeOf S → List Bool
bits_of j = lines_bits j.lines

-- the outcome is the fate so far of the bytes, with the values that they name
pub record HasOutcome {S : Type 0} (j : JudgeOf S) (bytes : List ℕ) (o : Outcome) : Type 0 where
  pub fate : FateSoFar (kind_of j) (formula_of j) bytes j.most (Some (fate_of o))
  pub values : AreValuesOf (formula_of j) (stream_values (kind_of j) (formula_of j).vars false bytes j.most) (bits_of j) o

-- without an outcome, the bytes, `most` at most, are undecided
abbrev pub HasTakenWith : {S : Type 0} → JudgeOf S → List ℕ → Option Outcome → Type 0
HasTakenWith j bytes None = LinesAwaitMore j.lines bytes × (length bytes ≤ j.most)
HasTakenWith j bytes (Some o) = HasOutcome j bytes o

-- the judge took the bytes of a stream
abbrev pub HasTaken : {S : Type 0} → JudgeOf S → List ℕ → Type 0
HasTaken j bytes = HasTakenWith j bytes (outcome_of j)

-- the same formula and kind, and the same number of bytes at most
pub record IsSameJudge {S : Type 0} (old new : JudgeOf S) : Type 0 where
  pub formula : formula_of new ≡ formula_of old
  pub kind : kind_of new ≡ kind_of old
  pub most : new.most ≡ old.most

-- The judge took the bytes, and answers their fate so far for each file of its formula, with the values that they name. Where they refute the
-- formula, it can't be satisfied.
pub record Feeds {S : Type 0} (old new : JudgeOf S) (bytes : List ℕ) (o : Option Outcome) : Type 0 where
  pub stands : HasTaken new bytes
  pub outcome : outcome_of new ≡ o
  pub fate : (file : List ℕ) → IsDimacs file (formula_of old) → IsFateSoFar (kind_of old) file bytes old.most (fate_told o)
  pub values : AreValuesTold (formula_of old) (stream_values (kind_of old) (formula_of old).vars false bytes old.most) (bits_of new) o
  pub refuted : o ≡ Some Refuted → IsUnsatisfiable (formula_of old).clauses

-- The judge answered the fate of the bytes as the whole stream.
pub record IsOver {S : Type 0} (j : JudgeOf S) (bytes : List ℕ) (o : Outcome) : Type 0 where
  pub outcome : outcome_of j ≡ Some o
  pub whole : FateOf (kind_of j) (formula_of j) bytes j.most (fate_of o)
  pub fate : (file : List ℕ) → IsDimacs file (formula_of j) → IsFate (kind_of j) file bytes j.most (fate_of o)
  pub values : AreValuesOf (formula_of j) (stream_values (kind_of j) (formula_of j).vars true bytes j.most) (bits_of j) o
  pub refuted : o ≡ Refuted → IsUnsatisfiable (formula_of j).clauses
