-- Who judges the output of a child, and how it stands.
use Rattle.std.specs.Prelude.{◌≡◌, ◌≢◌, ◌≤◌, ℕ, List, length, Result, Ok, Err}
use Rattle.std.specs.declared.alloc.AllocError.{AllocError}
use Rattle.sby_terms.specs.declared.names.JobName.{JobName}
use Rattle.race_core.specs.declared.event.Judged.{Judged}
use Rattle.race_core.specs.declared.event.Judged.TheVariants as judged
use Rattle.cert_judge.specs.declared.stream.BadCert.{BadCert}
use Rattle.cert_judge.specs.declared.stream.Kind.TheVariants.{Certificate}
use Rattle.judge.specs.Fates.{Serves}
use Rattle.judge.specs.Finding.{FindingOf}
use Rattle.judge.specs.Judging.{JudgeOf}
use Rattle.judge.specs.Problem.{AskedOf, IsJob, IsJobFile}
use Rattle.judge.specs.declared.judging.Progress.{Progress}
use Rattle.judge.specs.declared.judging.State.TheVariants.{Over}
use Rattle.lane_run.specs.Judging.{Says}
use Rattle.task_race.specs.Fates.{Ends, GoesOn, SolverGoesOn, Stands, judged_as, most_output}
use Rattle.task_race.specs.declared.evidence.Evidence.{Evidence}
use Rattle.task_race.specs.declared.evidence.Evidence.TheVariants.{Output, ProofFile}
use Rattle.task_race.specs.declared.job_judge.Watch.{Watch}
use Rattle.task_race.specs.declared.job_judge.Watch.TheVariants.{Stream, Solver}

-- the output of a child is judged as its evidence is, by a judge that goes on and has taken these bytes
abbrev pub Watches : AskedOf → JobName → Evidence → Watch → List ℕ → Type 0
Watches p job (Output kind) (Stream j) bytes = GoesOn p job kind j bytes
Watches p job (Output kind) (Solver j) bytes = ⊥
Watches p job (ProofFile kind) (Stream j) bytes = ⊥
Watches p job (ProofFile kind) (Solver j) bytes = SolverGoesOn p job kind j bytes

-- the output decided nothing, and its engine leaves a proof file, of a kind that is judged for the job
abbrev pub Awaits : AskedOf → JobName → Evidence → Type 0
Awaits p job (Output kind) = ⊥
Awaits p job (ProofFile kind) = IsJob p job × Serves (Certificate kind) job

-- the proof file of a kind is judged by a judge of such a stream that goes on and has taken these bytes
abbrev pub Proving : AskedOf → JobName → Evidence → Watch → List ℕ → Type 0
Proving p job (Output kind) w bytes = ⊥
Proving p job (ProofFile kind) (Stream j) bytes = GoesOn p job (Certificate kind) j bytes
Proving p job (ProofFile kind) (Solver j) bytes = ⊥

-- an answer as a lane's list has it; out of memory isn't judged
abbrev pub told_as : Result (Result Progress BadCert) AllocError → Judged FindingOf
told_as (Ok answer) = judged_as answer
told_as (Err e) = judged.Unjudged

-- a judge that may take more
abbrev pub IsReading : JudgeOf → Type 0
IsReading j = j.state ≢ Over

-- What is said of the bytes of an output stands; and where it is More, the judge goes on, and they are not too many.
pub record FedSo (p : AskedOf) (job : JobName) (by : Evidence) (goes_on : Type 0) (bytes : List ℕ) (said : Judged FindingOf) : Type 0 where
  pub says : (file : List ℕ) → IsJobFile p job file → Says (Stands p job by) bytes said
  pub more : (file : List ℕ) → IsJobFile p job file → said ≡ judged.More → goes_on × (length bytes ≤ most_output by)

-- what is said of them as the whole output
abbrev pub EndedSo : AskedOf → JobName → Evidence → List ℕ → Judged FindingOf → Type 0
EndedSo p job by bytes said = (file : List ℕ) → IsJobFile p job file → Says (Ends p job by) bytes said
