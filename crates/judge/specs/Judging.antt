-- A judge of a stream of any kind, and what its answers tell.
use Rattle.std.specs.Prelude.{◌≡◌, ℕ, Bool, true, false, List, MatchOption, Result}
use Rattle.sby_terms.specs.declared.names.JobName.{JobName}
use Rattle.sby_terms.specs.declared.names.JobName.TheVariants.{Inv}
use Rattle.cert_judge.specs.declared.stream.BadCert.{BadCert}
use Rattle.cert_judge.specs.declared.stream.Kind.{Kind}
use Rattle.cert_judge.specs.declared.stream.Kind.TheVariants as kind
use Rattle.judge.specs.Answers.{Finds, FindsRunOf, fate_told, state_after}
use Rattle.judge.specs.Certificate as certificate
use Rattle.judge.specs.Fates.{IsFate, IsFateSoFar}
use Rattle.judge.specs.Inductive as invariant
use Rattle.judge.specs.Problem.{AskedOf, IsJobFile}
use Rattle.judge.specs.Reading as witness
use Rattle.judge.specs.declared.judging.Progress.{Progress}
use Rattle.judge.specs.declared.judging.Reader.{Reader}
use Rattle.judge.specs.declared.judging.Reader.TheVariants.{Certificate, Witness, Invariant}
use Rattle.judge.specs.declared.judging.State.{State}
use Rattle.judge.specs.declared.judging.State.TheVariants.{Reading, Over}

-- the problem and its job, the stream's kind, the greatest number of bytes, how the judge stands, and what is kept of the stream so far
pub record JudgeOf : Type 0 where
  pub asked : AskedOf
  pub job : JobName
  pub kind : Kind
  pub most : ℕ
  pub state : State
  pub reader : Reader

abbrev pub judge_of : Reader → JudgeOf
judge_of (Certificate c) = record { asked = c.asked; job = c.job; kind = kind.Certificate c.kind; most = c.most; state = c.state; reader = Certificate c }
judge_of (Witness w) = record { asked = w.asked; job = w.job; kind = kind.Witness; most = w.most; state = w.state; reader = Witness w }
judge_of (Invariant i) = record { asked = i.asked; job = Inv; kind = kind.Invariant; most = i.most; state = i.state; reader = Invariant i }

-- these bytes of a stream were taken, and more may be
abbrev pub HasTaken : Reader → List ℕ → Type 0
HasTaken (Certificate c) bytes = certificate.Took c bytes
HasTaken (Witness w) bytes = witness.Took w bytes
HasTaken (Invariant i) bytes = invariant.Took i bytes

-- these were taken, and have an answer
abbrev pub HasTakenAll : Reader → List ℕ → Type 0
HasTakenAll (Certificate c) bytes = certificate.TookAll c bytes
HasTakenAll (Witness w) bytes = witness.TookAll w bytes
HasTakenAll (Invariant i) bytes = invariant.TookAll i bytes

-- the judge reads, and has taken these bytes of a stream
pub record Took (j : JudgeOf) (bytes : List ℕ) : Type 0 where
  pub state : j.state ≡ Reading
  pub taken : HasTaken j.reader bytes

-- the judge is over, and has taken these bytes
pub record TookAll (j : JudgeOf) (bytes : List ℕ) : Type 0 where
  pub state : j.state ≡ Over
  pub taken : HasTakenAll j.reader bytes

-- the same problem, job, number of bytes and kind
abbrev pub IsSameJudge : JudgeOf → JudgeOf → Type 0
IsSameJudge old new = (new.asked ≡ old.asked) × (new.job ≡ old.job) × (new.most ≡ old.most) × (new.kind ≡ old.kind)

abbrev pub FindsRun : JudgeOf → Bool → List ℕ → Result Progress BadCert → Type 0
FindsRun j ended bytes r = FindsRunOf j.asked j.job j.kind ended bytes j.most r

-- The judge took the bytes, and answers their fate so far for its job's file, whatever pieces they came in.
pub record Feeds (old new : JudgeOf) (bytes : List ℕ) (r : Result Progress BadCert) : Type 0 where
  pub same : IsSameJudge old new
  pub state : new.state ≡ state_after r
  pub stands : new.state ≡ Reading → Took new bytes
  pub over : new.state ≡ Over → TookAll new bytes
  pub finds : Finds old.asked old.job r
  pub run : FindsRun old false bytes r
  pub fate : (file : List ℕ) → IsJobFile old.asked old.job file → IsFateSoFar old.asked old.job old.kind file bytes old.most (fate_told r)

-- The judge answers the fate of the bytes taken, as the whole stream, for its job's file.
pub record Ends (old new : JudgeOf) (bytes : List ℕ) (r : Result Progress BadCert) : Type 0 where
  pub same : IsSameJudge old new
  pub state : new.state ≡ state_after r
  pub over : new.state ≡ Over → TookAll new bytes
  pub finds : Finds old.asked old.job r
  pub run : FindsRun old true bytes r
  pub fate : (file : List ℕ) → IsJobFile old.asked old.job file → MatchOption (fate_told r) ⊥ (IsFate old.asked old.job old.kind file bytes old.most)
