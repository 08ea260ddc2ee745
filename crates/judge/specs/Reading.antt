-- A judge of a witness, and what its answers tell.
use Rattle.std.specs.Prelude.{◌≡◌, ℕ, true, false, List, Option, Some, None, MatchOption, Result}
use Rattle.cert_judge.specs.Fate.{Found, Unknown}
use Rattle.cert_judge.specs.declared.stream.BadCert.{BadCert}
use Rattle.cert_judge.specs.declared.stream.Kind.TheVariants.{Witness}
use Rattle.design_meaning.specs.Runs.{CycleOf}
use Rattle.sby_terms.specs.declared.names.Answer.TheVariants.{Sat}
use Rattle.sby_terms.specs.declared.names.JobName.{JobName}
use Rattle.witness_judge.specs.Judging.{JudgeOf as WitnessJudgeOf, Took as HasTaken}
use Rattle.witness_judge.specs.declared.sought.Sought.{Sought}
use Rattle.judge.specs.Answers.{Finds, FindsRunOf, IsFindingFor, fate_told, state_after}
use Rattle.judge.specs.Finding.{FindingOf}
use Rattle.judge.specs.Problem.{AskedOf}
use Rattle.judge.specs.Witness.{IsShown, IsShownSoFar, IsWitnessRun, sought_in, witness_asked}
use Rattle.judge.specs.declared.judging.Progress.{Progress}
use Rattle.judge.specs.declared.judging.State.{State}
use Rattle.judge.specs.declared.judging.State.TheVariants.{Reading, Over}

-- the problem and its job, the greatest number of bytes, what is kept of the stream so far, the finding that was answered, and how the
-- judge stands
pub record ReaderOf : Type 0 where
  pub asked : AskedOf
  pub job : JobName
  pub most : ℕ
  pub judge : WitnessJudgeOf
  pub found : Option FindingOf
  pub state : State

-- the stream is judged as a witness for the job
pub record IsForJob (r : ReaderOf) : Type 0 where
  pub sought : Sought
  pub is : sought_in r.asked r.job ≡ Some sought
  pub asked : r.judge.asked ≡ witness_asked r.asked sought
  pub most : r.judge.most ≡ r.most

-- the bytes have as the whole stream the finding that was answered, or, without one, are unknown
abbrev pub HasAnswered : AskedOf → JobName → ℕ → Option FindingOf → List ℕ → Type 0
HasAnswered p job most None bytes = IsShown p job bytes most Unknown
HasAnswered p job most (Some f) bytes =
    IsFindingFor p job f × (f.answer ≡ Sat) × IsShown p job bytes most (Found Sat) × ((run : List CycleOf) × (f.run ≡ Some run) × IsWitnessRun p job true bytes most run)

-- the judge reads, and has taken these bytes of a stream
pub record Took (r : ReaderOf) (bytes : List ℕ) : Type 0 where
  pub state : r.state ≡ Reading
  pub taken : HasTaken r.judge bytes

-- the judge is over, and has taken these bytes
pub record TookAll (r : ReaderOf) (bytes : List ℕ) : Type 0 where
  pub state : r.state ≡ Over
  pub answered : HasAnswered r.asked r.job r.most r.found bytes

-- some bytes were taken, and more may be, or they have an answer
pub record IsReader (r : ReaderOf) : Type 0 where
  pub reading : r.state ≡ Reading → IsForJob r × (r.found ≡ None) × ((bytes : List ℕ) × HasTaken r.judge bytes)
  pub over : r.state ≡ Over → (bytes : List ℕ) × HasAnswered r.asked r.job r.most r.found bytes

-- the same problem, job and number of bytes
abbrev pub IsSameReader : ReaderOf → ReaderOf → Type 0
IsSameReader old new = (new.asked ≡ old.asked) × (new.job ≡ old.job) × (new.most ≡ old.most)

-- The judge took the bytes, and answers their fate so far, whatever pieces they came in.
pub record Feeds (old new : ReaderOf) (bytes : List ℕ) (r : Result Progress BadCert) : Type 0 where
  pub same : IsSameReader old new
  pub state : new.state ≡ state_after r
  pub stands : new.state ≡ Reading → Took new bytes
  pub over : new.state ≡ Over → TookAll new bytes
  pub finds : Finds old.asked old.job r
  pub run : FindsRunOf old.asked old.job Witness false bytes old.most r
  pub fate : IsShownSoFar old.asked old.job bytes old.most (fate_told r)

-- The judge answers the fate of the bytes taken, as the whole stream.
pub record Ends (old new : ReaderOf) (bytes : List ℕ) (r : Result Progress BadCert) : Type 0 where
  pub same : IsSameReader old new
  pub state : new.state ≡ state_after r
  pub over : new.state ≡ Over → TookAll new bytes
  pub finds : Finds old.asked old.job r
  pub run : FindsRunOf old.asked old.job Witness true bytes old.most r
  pub fate : MatchOption (fate_told r) ⊥ (IsShown old.asked old.job bytes old.most)
