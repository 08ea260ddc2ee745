-- A judge of a certificate, and what its answers tell.
use Rattle.std.specs.Prelude.{◌≡◌, ◌⊎◌, ℕ, Bool, true, false, List, MatchOption, Result}
use Rattle.sby_terms.specs.declared.names.JobName.{JobName}
use Rattle.cert_judge.specs.Kinds.{IsFate, IsFateSoFar}
use Rattle.cert_judge.specs.Judging.{IsOver, JudgeOf as StreamJudgeOf, HasTaken, formula_of, kind_of}
use Rattle.cert_judge.specs.declared.stream.BadCert.{BadCert}
use Rattle.cert_judge.specs.declared.stream.Kind.TheVariants.{Certificate}
use Rattle.cert_judge.specs.declared.stream.Outcome.{Outcome}
use Rattle.cert_judge.specs.declared.stream.StreamKind.{StreamKind}
use Rattle.net_unroll.specs.Encoding.{EncodedOf}
use Rattle.judge.specs.Answers.{Finds, FindsRunOf, fate_told, state_after}
use Rattle.judge.specs.Problem.{AskedOf, IsFormulaFile, IsFormulaOf, IsTold}
use Rattle.judge.specs.declared.judging.Progress.{Progress}
use Rattle.judge.specs.declared.judging.State.{State}
use Rattle.judge.specs.declared.judging.State.TheVariants.{Reading, Over}

-- what is kept of a stream so far; its clauses come from an encoding
abbrev pub StreamOf : Type 0
StreamOf = StreamJudgeOf EncodedOf

-- the problem and its job, the stream's kind, the greatest number of bytes, what is kept of the stream so far, and how the judge stands
pub record JudgeOf : Type 0 where
  pub asked : AskedOf
  pub job : JobName
  pub kind : StreamKind
  pub most : ℕ
  pub stream : StreamOf
  pub state : State

-- the stream is judged for the job's formula
pub record IsForJob (j : JudgeOf) : Type 0 where
  pub formula : IsFormulaOf j.asked j.job (formula_of j.stream)
  pub kind : kind_of j.stream ≡ j.kind
  pub most : j.stream.most ≡ j.most

-- the bytes were taken; the stream may have ended with them
abbrev pub Heard : StreamOf → List ℕ → Type 0
Heard stream bytes = HasTaken stream bytes ⊎ ((o : Outcome) × IsOver stream bytes o)

-- some bytes were taken, and more may be, or they have an outcome
pub record IsJudge (j : JudgeOf) : Type 0 where
  pub reading : j.state ≡ Reading → IsForJob j × ((bytes : List ℕ) × HasTaken j.stream bytes)
  pub over : j.state ≡ Over → IsForJob j × ((bytes : List ℕ) × Heard j.stream bytes)

-- the judge reads, and has taken these bytes of a stream
pub record Took (j : JudgeOf) (bytes : List ℕ) : Type 0 where
  pub state : j.state ≡ Reading
  pub stands : HasTaken j.stream bytes

-- the judge is over, and has taken these bytes
pub record TookAll (j : JudgeOf) (bytes : List ℕ) : Type 0 where
  pub state : j.state ≡ Over
  pub heard : Heard j.stream bytes

-- the same problem, job, number of bytes and kind
abbrev pub IsSameJudge : JudgeOf → JudgeOf → Type 0
IsSameJudge old new = (new.asked ≡ old.asked) × (new.job ≡ old.job) × (new.most ≡ old.most) × (new.kind ≡ old.kind)

abbrev pub FindsRun : JudgeOf → Bool → List ℕ → Result Progress BadCert → Type 0
FindsRun j ended bytes r = FindsRunOf j.asked j.job (Certificate j.kind) ended bytes j.most r

-- The judge took the bytes, and answers their fate so far for its job's formula, whatever pieces they came in.
pub record Feeds (old new : JudgeOf) (bytes : List ℕ) (r : Result Progress BadCert) : Type 0 where
  pub told : IsTold old.asked old.job
  pub same : IsSameJudge old new
  pub state : new.state ≡ state_after r
  pub stands : new.state ≡ Reading → Took new bytes
  pub over : new.state ≡ Over → TookAll new bytes
  pub finds : Finds old.asked old.job r
  pub run : FindsRun old false bytes r
  pub fate : (file : List ℕ) → IsFormulaFile old.asked old.job file → IsFateSoFar old.kind file bytes old.most (fate_told r)

-- The judge answers the fate of the bytes taken, as the whole stream, for its job's formula.
pub record Ends (old new : JudgeOf) (bytes : List ℕ) (r : Result Progress BadCert) : Type 0 where
  pub told : IsTold old.asked old.job
  pub same : IsSameJudge old new
  pub state : new.state ≡ state_after r
  pub over : new.state ≡ Over → TookAll new bytes
  pub finds : Finds old.asked old.job r
  pub run : FindsRun old true bytes r
  pub fate : (file : List ℕ) → IsFormulaFile old.asked old.job file → MatchOption (fate_told r) ⊥ (IsFate old.kind file bytes old.most)
