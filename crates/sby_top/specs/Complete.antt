-- How the lanes of a task end with no thread, cell or order, and where they end so.
use Rattle.std.specs.Prelude.{◌≡◌, ◌≢◌, ◌⊎◌, ℕ, ◌-◌, ◌<◌, ◌≤◌, List, length, Option, Some, None, IsSome, slice_get, Contains}
use Rattle.sby_edge.specs.Child.{YardOf}
use Rattle.sby_edge.specs.Script.{ScriptOf}
use Rattle.judge.specs.Finding.{FindingOf}
use Rattle.judge.specs.Problem.{AskedOf}
use Rattle.task_race.specs.Serving.{IsServing}
use Rattle.race_core.specs.Asking.{name_at}
use Rattle.race_core.specs.Carrying.{Carries, Looked}
use Rattle.race_core.specs.Consistent.{end_at, events_at}
use Rattle.race_core.specs.Report.{ReportOf}
use Rattle.race_core.specs.declared.end.JobEnd.{JobEnd}
use Rattle.race_core.specs.declared.end.JobEnd.TheVariants.{Found, Unknown, NotServed, Bad, ReadFailed, StartFailed, HoldFailed, Skipped, CalledOff, Stopped, Memory as MemoryEnd}
use Rattle.race_core.specs.declared.event.Judged.TheVariants as judged
use Rattle.sby_terms.specs.declared.engine.Engine.{Engine}
use Rattle.sby_terms.specs.declared.names.JobName.{JobName}
use Rattle.sby_terms.specs.declared.names.Mode.{Mode}
use Rattle.sby_terms.specs.declared.names.Status.{Status}
use Rattle.sby_terms.specs.declared.names.Status.TheVariants.{Pass, Fail, Memory}
use Rattle.sby_lines.specs.Told.{IsRaceStatus}
use Rattle.sby_top.specs.Claims.{HasFailedCall}
use Rattle.sby_top.specs.Judged.{racing_of}
use Rattle.sby_top.specs.Task.{TaskOf}
use Rattle.sby_top.specs.World.{Moments}
use Rattle.task_race.specs.Ends.{IsJudgedAs, script_of}
use Rattle.task_race.specs.Ran.{EachLane, RacingOf, job_count, name_in}
use Rattle.sby_top.specs.declared.outcome.TaskEnd.{TaskEnd}

-- Plain's end of a lane's job: what its child's script is judged as, as evidence for the job, or that it isn't served
abbrev pub IsPlainEnd : RacingOf → Option YardOf → ℕ → JobName → JobEnd FindingOf → Type 0
IsPlainEnd racing told lane job (Found f) = IsJudgedAs racing told lane job (judged.Found f)
IsPlainEnd racing told lane job Unknown = IsJudgedAs racing told lane job judged.Unknown
IsPlainEnd racing told lane job (Bad number at) = IsJudgedAs racing told lane job (judged.Bad number at)
IsPlainEnd racing told lane job NotServed = IsServing (slice_get racing.engines lane) job → ⊥
IsPlainEnd racing told lane job ReadFailed = ⊥
IsPlainEnd racing told lane job StartFailed = ⊥
IsPlainEnd racing told lane job HoldFailed = ⊥
IsPlainEnd racing told lane job (Skipped f) = ⊥
IsPlainEnd racing told lane job (CalledOff f) = ⊥
IsPlainEnd racing told lane job (Stopped t) = ⊥
IsPlainEnd racing told lane job MemoryEnd = ⊥

-- a report has Plain's end for each job of its lane
abbrev pub IsPlainReport : RacingOf → Option YardOf → ℕ → ReportOf FindingOf → Type 0
IsPlainReport racing told lane r =
    (length r.ends ≡ job_count racing) × ((place : ℕ) → place < job_count racing → IsPlainEnd racing told lane (name_in racing place) (end_at r place))

-- Plain's reports, one for each engine line
pub record ArePlain (racing : RacingOf) (told : Option YardOf) (reports : List (ReportOf FindingOf)) : Type 0 where
  pub lanes_are : length reports ≡ length racing.engines
  pub each : EachLane reports (λ lane r. IsPlainReport racing told lane r)

-- the status that Plain's reports give a task
pub record IsPlainLanesStatus (m : Moments) (task : TaskOf) (p : AskedOf) (number : ℕ) (engines : List Engine) (status : Status) : Type 0 where
  pub reports : List (ReportOf FindingOf)
  pub are_plain : ArePlain (racing_of task p number engines) m.before.yard.scripts reports
  pub is_status : IsRaceStatus task.request (record { design = p.design; reports = reports; start = None }) status

-- the status of a verdict
abbrev pub IsVerdictStatus : Status → Type 0
IsVerdictStatus status = (status ≡ Pass) ⊎ (status ≡ Fail)

-- The yard tells its scripts, and none of the task's has a gate; no call for a child failed; there is no timeout, or no two readings that
-- the clock may give are the limit apart; and memory did not run out.
pub record IsUndisturbed (may_read : ℕ → Type 0) (number : ℕ) (m : Moments) (task : TaskOf) (end : TaskEnd) : Type 0 where
  pub told : IsSome m.before.yard.scripts
  pub ungated : (lane : ℕ) (job : JobName) (script : ScriptOf) → script_of m.before.yard.scripts number lane job ≡ Some script → script.gate ≡ None
  pub calls : HasFailedCall m.before.yard.counts m.after.yard.counts → ⊥
  pub in_time : (a b millis : ℕ) → task.request.limit ≡ Some millis → may_read a → may_read b → a ≤ b → millis ≤ b - a → ⊥
  pub memory : end.status ≢ Memory
  pub lanes_memory : (r : ReportOf FindingOf) (place : ℕ) → Contains end.reports.items r → end_at r place ≡ MemoryEnd → ⊥

-- an end carries a finding that isn't its own
abbrev pub PassesOn : JobEnd FindingOf → FindingOf → Type 0
PassesOn e f = Carries e f × ((g : FindingOf) → e ≡ Found g → ⊥)

-- a look of the lane, at one of its jobs, showed this finding
abbrev pub HasLooked : ReportOf FindingOf → FindingOf → Type 0
HasLooked r f = (place : ℕ) × (cell : ℕ) × Looked cell f (events_at r place).keeper

-- A job's finding came by a look: a lane passes on what one of its looks showed, and no lane's end of the job is Found.
pub record IsByLook (mode : Mode) (reports : List (ReportOf FindingOf)) : Type 0 where
  pub job : ℕ
  pub finding : FindingOf
  pub of_job : finding.job ≡ name_at mode job
  pub report : ReportOf FindingOf
  pub among : Contains reports report
  pub place : ℕ
  pub passes_on : PassesOn (end_at report place) finding
  pub looked : HasLooked report finding
  pub none_found : (r : ReportOf FindingOf) (f : FindingOf) → Contains reports r → end_at r job ≡ Found f → ⊥
