-- A judge of an inductive invariant, and what its answers tell.
use Rattle.std.specs.Prelude.{◌≡◌, ◌⊎◌, ℕ, true, false, List, MatchOption, Result}
use Rattle.cert_judge.specs.declared.stream.BadCert.{BadCert}
use Rattle.cert_judge.specs.declared.stream.Kind.TheVariants.{Invariant}
use Rattle.inv_judge.specs.Judging.{IsOver, JudgeOf as InvJudgeOf, HasTaken, pair_of}
use Rattle.inv_judge.specs.declared.outcome.InvOutcome.{InvOutcome}
use Rattle.sby_terms.specs.declared.names.JobName.TheVariants.{Inv}
use Rattle.judge.specs.Answers.{Finds, FindsRunOf, fate_told, state_after}
use Rattle.judge.specs.Invariant.{IsProved, IsProvedSoFar}
use Rattle.judge.specs.Problem.{AskedOf, IsJob, pair_in}
use Rattle.judge.specs.declared.judging.Progress.{Progress}
use Rattle.judge.specs.declared.judging.State.{State}
use Rattle.judge.specs.declared.judging.State.TheVariants.{Reading, Over}

-- the problem, the greatest number of bytes, what is kept of the stream so far, and how the judge stands
pub record ReaderOf : Type 0 where
  pub asked : AskedOf
  pub most : ℕ
  pub judge : InvJudgeOf
  pub state : State

-- the stream is judged for the pair of the problem, which asks for an invariant
pub record IsForJob (r : ReaderOf) : Type 0 where
  pub job : IsJob r.asked Inv
  pub pair : pair_of r.judge ≡ pair_in r.asked
  pub most : r.judge.most ≡ r.most

-- the bytes were taken; the stream may have ended with them
abbrev pub Heard : InvJudgeOf → List ℕ → Type 0
Heard judge bytes = HasTaken judge bytes ⊎ ((o : InvOutcome) × IsOver judge bytes o)

-- some bytes were taken, and more may be, or they have an outcome
pub record IsReader (r : ReaderOf) : Type 0 where
  pub reading : r.state ≡ Reading → IsForJob r × ((bytes : List ℕ) × HasTaken r.judge bytes)
  pub over : r.state ≡ Over → IsForJob r × ((bytes : List ℕ) × Heard r.judge bytes)

-- the judge reads, and has taken these bytes of a stream
pub record Took (r : ReaderOf) (bytes : List ℕ) : Type 0 where
  pub state : r.state ≡ Reading
  pub stands : HasTaken r.judge bytes

-- the judge is over, and has taken these bytes
pub record TookAll (r : ReaderOf) (bytes : List ℕ) : Type 0 where
  pub state : r.state ≡ Over
  pub heard : Heard r.judge bytes

-- the same problem and number of bytes
abbrev pub IsSameReader : ReaderOf → ReaderOf → Type 0
IsSameReader old new = (new.asked ≡ old.asked) × (new.most ≡ old.most)

-- The judge took the bytes, and answers their fate so far, whatever pieces they came in.
pub record Feeds (old new : ReaderOf) (bytes : List ℕ) (r : Result Progress BadCert) : Type 0 where
  pub same : IsSameReader old new
  pub state : new.state ≡ state_after r
  pub stands : new.state ≡ Reading → Took new bytes
  pub over : new.state ≡ Over → TookAll new bytes
  pub finds : Finds old.asked Inv r
  pub run : FindsRunOf old.asked Inv Invariant false bytes old.most r
  pub fate : IsProvedSoFar old.asked Inv bytes old.most (fate_told r)

-- The judge answers the fate of the bytes taken, as the whole stream.
pub record Ends (old new : ReaderOf) (bytes : List ℕ) (r : Result Progress BadCert) : Type 0 where
  pub same : IsSameReader old new
  pub state : new.state ≡ state_after r
  pub over : new.state ≡ Over → TookAll new bytes
  pub finds : Finds old.asked Inv r
  pub run : FindsRunOf old.asked Inv Invariant true bytes old.most r
  pub fate : MatchOption (fate_told r) ⊥ (IsProved old.asked Inv bytes old.most)
