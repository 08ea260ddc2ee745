-- The race's theorem, of a type of findings.
use Rattle.race_core.specs.Carrying.{Looked}
use Rattle.std.specs.Prelude.{◌≡◌, ◌⊎◌, ℕ, ◌<◌, Bool, true, List, Option, Some}
use Rattle.sby_terms.specs.Problem.{ProblemOf}
use Rattle.sby_terms.specs.declared.names.Mode.{Mode}
use Rattle.sby_terms.specs.declared.names.JobName.{JobName}
use Rattle.sby_terms.specs.declared.names.JobName.TheVariants as name
use Rattle.sby_terms.specs.declared.names.Answer.{Answer}
use Rattle.sby_terms.specs.declared.names.Answer.TheVariants as answer
use Rattle.sby_terms.specs.declared.names.Status.{Status}
use Rattle.race_core.specs.Asking.{terms_of, name_at}
use Rattle.race_core.specs.Parts.{reader_of}
use Rattle.race_core.specs.Ends.{HasEnd}
use Rattle.race_law.specs.World.{Script, Race, World, Step, WorldRun, IsNew, QuietRun, IsScript}
use Rattle.race_law.specs.Ended.{AllEnded, IsCalm, plain_end}
use Rattle.race_law.specs.Status.{TaskStatus, RaceSettles, PlainSettles}
use Rattle.race_core.specs.declared.end.JobEnd.{JobEnd}
use Rattle.race_core.specs.declared.end.JobEnd.TheVariants as end
use Rattle.race_core.specs.declared.part.By.{By}
use Rattle.race_core.specs.declared.part.Reader.TheVariants as reader

-- what a task asks of its lanes
pub record TaskOf : Type 0 where
  pub problem : ProblemOf
  pub mode : Mode
  pub jobs : ℕ
  pub lanes : ℕ
  pub wait : Bool
  pub start : ℕ
  pub limit : Option ℕ

-- a true finding of the task's problem, for the job at this place
pub record IsFor {T : Type 0} (problem : T → ProblemOf) (job : T → JobName) (is_true : T → Type 0) (task : TaskOf) (k : ℕ) (f : T) : Type 0 where
  pub within : k < task.jobs
  pub of_job : job f ≡ name_at task.mode k
  pub of_problem : problem f ≡ task.problem
  pub holds : is_true f

-- a finding that is Sat for the first job decides the task whatever the end of the second: Base's, of Step or Inv; a slice's, of a later slice
abbrev pub IsBefore : JobName → JobName → Type 0
IsBefore (name.Base m) (name.Base n) = m < n
IsBefore (name.Base m) name.Step = m ≡ 0
IsBefore (name.Base m) name.Inv = m ≡ 0
IsBefore (name.Base m) (name.Cover n) = ⊥
IsBefore name.Step k = ⊥
IsBefore name.Inv k = ⊥
IsBefore (name.Cover m) k = ⊥

-- a finding that decides the task whatever the end of this job
pub record DecidesAway {T : Type 0} (job : T → JobName) (answer_of : T → Answer) (task : TaskOf) (k : ℕ) (f : T) : Type 0 where
  pub sat : answer_of f ≡ answer.Sat
  pub before : IsBefore (job f) (name_at task.mode k)

-- the race of a task with these scripts
abbrev pub race_of : {T : Type 0} → (T → JobName) → (T → Answer) → TaskOf → (ℕ → ℕ → Option (Script T)) → Race T
race_of job answer task script = record {
  lanes = task.lanes;
  jobs = task.jobs;
  terms = λ k. terms_of job answer (record { cell = k; job = name_at task.mode k; wait = task.wait; start = task.start; limit = task.limit });
  script = script;
}

-- scripts of this task's lanes, whose findings are true, of the problem and for the job
pub record AreScripts {T : Type 0} (for : ℕ → T → Type 0) (task : TaskOf) (script : ℕ → ℕ → Option (Script T)) : Type 0 where
  pub within : (i j : ℕ) (s : Script T) → script i j ≡ Some s → (i < task.lanes) × (j < task.jobs)
  pub are : (i j : ℕ) (s : Script T) → script i j ≡ Some s → IsScript (for j) s

-- what a lane knows of a cell: by a settle that it won, or by a look
abbrev pub Knows : {T : Type 0} → World T → ℕ → ℕ → T → Type 0
Knows w i c f = ((b : By) × (reader_of (w.events i c) ≡ reader.Found f b true)) ⊎ ((j : ℕ) × Looked c f (w.events i j).keeper)

-- what all lanes know of one cell is equal
abbrev pub Agree : {T : Type 0} → World T → Type 0
Agree {T} w = (i k c : ℕ) (f g : T) → Knows w i c f → Knows w k c g → f ≡ g

-- a finding that an end carries was found by some lane, for one of the jobs
abbrev pub WasFound : {T : Type 0} → (ℕ → T → Type 0) → World T → T → Type 0
WasFound for w f = (i : ℕ) × (l : ℕ) × for l f × HasEnd (reader_of (w.events i l)) (end.Found f)

-- A world run of a task: scripts of the task, empty cells at first, any list of steps, and all lanes have ended so.
pub record Ran {T : Type 0} (problem : T → ProblemOf) (job : T → JobName) (answer_of : T → Answer) (is_true : T → Type 0)
    (task : TaskOf) (script : ℕ → ℕ → Option (Script T)) (w : World T) (ss : List (Step T)) (v : World T) (ends : ℕ → ℕ → JobEnd T) : Type 0 where
  pub scripts : AreScripts (IsFor problem job is_true task) task script
  pub new : IsNew w
  pub run : WorldRun (race_of job answer_of task script) w ss v
  pub ended : AllEnded (race_of job answer_of task script) v ends

-- without a failed call, a reading that shows the limit or out of memory
pub record Undisturbed {T : Type 0} (job : T → JobName) (answer_of : T → Answer) (task : TaskOf) (script : ℕ → ℕ → Option (Script T)) (ss : List (Step T)) (ends : ℕ → ℕ → JobEnd T) : Type 0 where
  pub steps : QuietRun (race_of job answer_of task script) ss
  pub ends_calm : (i j : ℕ) → i < task.lanes → j < task.jobs → IsCalm (ends i j)

-- the status of the task that ran so
abbrev pub RaceStatus : {T : Type 0} → (T → ProblemOf) → (T → JobName) → (T → Answer) → (T → Type 0) → TaskOf → (ℕ → ℕ → Option (Script T)) → (ℕ → ℕ → JobEnd T) → Status → Type 0
RaceStatus problem job answer_of is_true task script ends =
    TaskStatus task.mode answer_of task.lanes task.jobs (RaceSettles (IsFor problem job is_true task) (race_of job answer_of task script) ends) ends

-- the status of the scripts themselves
abbrev pub PlainStatus : {T : Type 0} → (T → ProblemOf) → (T → JobName) → (T → Answer) → (T → Type 0) → TaskOf → (ℕ → ℕ → Option (Script T)) → Status → Type 0
PlainStatus problem job answer_of is_true task script =
    TaskStatus task.mode answer_of task.lanes task.jobs (PlainSettles (IsFor problem job is_true task) (race_of job answer_of task script)) (λ i k. plain_end (script i k))
