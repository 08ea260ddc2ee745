-- A judge of the output of a solver that leaves a proof file, and what its answers tell.
use Rattle.std.specs.Prelude.{◌≡◌, ℕ, Bool, true, false, List, Result, Ok, Err}
use Rattle.std.specs.declared.alloc.AllocError.{AllocError}
use Rattle.cert_judge.specs.Judging.{formula_of}
use Rattle.cert_judge.specs.OutputFate.{IsOutputFate, IsOutputFateSoFar}
use Rattle.cert_judge.specs.OutputJudging.{OutputOf as OutputJudgeOf, HasTaken}
use Rattle.cert_judge.specs.Output.{stream_of}
use Rattle.sby_terms.specs.declared.names.JobName.{JobName}
use Rattle.cert_judge.specs.declared.stream.BadCert.{BadCert}
use Rattle.cert_judge.specs.declared.stream.StreamKind.TheVariants.{Drup}
use Rattle.net_unroll.specs.Encoding.{EncodedOf}
use Rattle.cert_judge.specs.declared.stream.Kind.TheVariants.{Certificate}
use Rattle.judge.specs.Answers.{Finds, FindsRunOf, fate_told}
use Rattle.judge.specs.Problem.{AskedOf, IsFormulaOf, IsJobFile}
use Rattle.judge.specs.declared.judging.Progress.{Progress}
use Rattle.judge.specs.declared.judging.Progress.TheVariants.{More, Done, Unknown}

-- what is kept of an output so far; its clauses come from an encoding
abbrev pub OutputOf : Type 0
OutputOf = OutputJudgeOf EncodedOf

-- the problem and its job, the greatest number of bytes, what is kept of the output so far, and whether more may come
pub record SolverOf : Type 0 where
  pub asked : AskedOf
  pub job : JobName
  pub most : ℕ
  pub output : OutputOf
  pub reading : Bool

-- the output is judged for the job's formula
pub record IsForJob (j : SolverOf) : Type 0 where
  pub formula : IsFormulaOf j.asked j.job (formula_of j.output.judge)
  pub most : j.output.judge.most ≡ j.most

-- some bytes were taken, and more may be
abbrev pub IsSolver : SolverOf → Type 0
IsSolver j = j.reading ≡ true → IsForJob j × ((bytes : List ℕ) × HasTaken j.output bytes)

-- the judge reads, and has taken these bytes of an output
pub record Took (j : SolverOf) (bytes : List ℕ) : Type 0 where
  pub reading : j.reading ≡ true
  pub stands : HasTaken j.output bytes

-- nothing but More is told
abbrev pub is_more : Result Progress BadCert → Bool
is_more (Ok More) = true
is_more (Ok (Done f)) = false
is_more (Ok Unknown) = false
is_more (Err b) = false

abbrev pub is_open : Result (Result Progress BadCert) AllocError → Bool
is_open (Ok r) = is_more r
is_open (Err e) = false

-- the same problem, job and number of bytes
abbrev pub IsSameSolver : SolverOf → SolverOf → Type 0
IsSameSolver old new = (new.asked ≡ old.asked) × (new.job ≡ old.job) × (new.most ≡ old.most)

-- The judge took the bytes, and answers their fate so far for its job's file, whatever pieces they came in. A run that is found is played
-- from the values that they name.
pub record Feeds (old new : SolverOf) (bytes : List ℕ) (r : Result Progress BadCert) : Type 0 where
  pub same : IsSameSolver old new
  pub reading : new.reading ≡ is_more r
  pub took : new.reading ≡ true → Took new bytes
  pub finds : Finds old.asked old.job r
  pub run : FindsRunOf old.asked old.job (Certificate Drup) false (stream_of false bytes) old.most r
  pub fate : (file : List ℕ) → IsJobFile old.asked old.job file → IsOutputFateSoFar file bytes old.most (fate_told r)

-- The judge answers the fate of the bytes taken, as the whole output, for its job's file; More where the proof file decides.
pub record Ends (old : SolverOf) (bytes : List ℕ) (r : Result Progress BadCert) : Type 0 where
  pub finds : Finds old.asked old.job r
  pub run : FindsRunOf old.asked old.job (Certificate Drup) true (stream_of true bytes) old.most r
  pub fate : (file : List ℕ) → IsJobFile old.asked old.job file → IsOutputFate file bytes old.most (fate_told r)
