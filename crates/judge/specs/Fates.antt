-- The fate of a stream of any kind, for a job of a problem.
use Rattle.std.specs.Prelude.{ℕ, Bool, List, Option}
use Rattle.cert_judge.specs.Fate.{Fate}
use Rattle.cert_judge.specs.Kinds.{IsFate as IsCertFate, IsFateSoFar as IsCertFateSoFar}
use Rattle.cert_judge.specs.declared.stream.Kind.{Kind}
use Rattle.cert_judge.specs.declared.stream.Kind.TheVariants.{Certificate, Witness, Invariant}
use Rattle.design_meaning.specs.Runs.{CycleOf}
use Rattle.sby_terms.specs.declared.names.JobName.{JobName}
use Rattle.sby_terms.specs.declared.names.JobName.TheVariants.{Base, Step, Inv, Cover}
use Rattle.judge.specs.Invariant.{IsProved, IsProvedSoFar}
use Rattle.judge.specs.Played.{IsValuesRun}
use Rattle.judge.specs.Problem.{AskedOf}
use Rattle.judge.specs.Witness.{IsShown, IsShownSoFar, IsWitnessRun}

-- streams of this kind are judged for the job: an invariant for Inv alone, a certificate for each other, and a witness for those that ask for a
-- run from the start
abbrev pub Serves : Kind → JobName → Type 0
Serves (Certificate kind) (Base i) = Unit {0}
Serves (Certificate kind) Step = Unit {0}
Serves (Certificate kind) Inv = ⊥
Serves (Certificate kind) (Cover k) = Unit {0}
Serves Witness (Base i) = Unit {0}
Serves Witness Step = ⊥
Serves Witness Inv = ⊥
Serves Witness (Cover k) = Unit {0}
Serves Invariant (Base i) = ⊥
Serves Invariant Step = ⊥
Serves Invariant Inv = Unit {0}
Serves Invariant (Cover k) = ⊥

-- The fate so far of the bytes of a stream of a kind, as evidence for a job whose file this is, where streams of the kind are judged for the
-- job. A certificate speaks of the file, a witness of the model, an invariant of the pair of two cycles.
abbrev pub IsFateSoFar : AskedOf → JobName → Kind → List ℕ → List ℕ → ℕ → Option Fate → Type 0
IsFateSoFar p job (Certificate kind) file bytes most fate = Serves (Certificate kind) job × IsCertFateSoFar kind file bytes most fate
IsFateSoFar p job Witness file bytes most fate = IsShownSoFar p job bytes most fate
IsFateSoFar p job Invariant file bytes most fate = IsProvedSoFar p job bytes most fate

-- the fate of a whole stream of a kind
abbrev pub IsFate : AskedOf → JobName → Kind → List ℕ → List ℕ → ℕ → Fate → Type 0
IsFate p job (Certificate kind) file bytes most fate = Serves (Certificate kind) job × IsCertFate kind file bytes most fate
IsFate p job Witness file bytes most fate = IsShown p job bytes most fate
IsFate p job Invariant file bytes most fate = IsProved p job bytes most fate

-- the run is played from the values that the bytes of a stream name, or as the witness in them chooses, `most` of the bytes at most: where
-- the stream ends with them, or where more may follow; an invariant names no run
abbrev pub IsStreamsRun : AskedOf → JobName → Kind → Bool → List ℕ → ℕ → List CycleOf → Type 0
IsStreamsRun p job (Certificate kind) ended bytes most run = IsValuesRun p job kind ended bytes most run
IsStreamsRun p job Witness ended bytes most run = IsWitnessRun p job ended bytes most run
IsStreamsRun p job Invariant ended bytes most run = ⊥
