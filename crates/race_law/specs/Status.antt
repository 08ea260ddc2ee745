-- The status of a task, by which findings settle its jobs and how its lanes' jobs ended.
use Rattle.race_core.specs.Told.{told_by, Decided}
use Rattle.race_core.specs.Carrying.{Carries}
use Rattle.std.specs.Prelude.{◌≡◌, ℕ, ◌<◌, List, Option, Some, None, slice_get, length, Contains}
use Rattle.sby_terms.specs.Status.{HasStatus}
use Rattle.sby_terms.specs.declared.names.Mode.{Mode}
use Rattle.sby_terms.specs.declared.names.Answer.{Answer}
use Rattle.sby_terms.specs.declared.names.Verdict.{Verdict}
use Rattle.sby_terms.specs.declared.names.Event.{Event}
use Rattle.sby_terms.specs.declared.names.Status.{Status}
use Rattle.race_core.specs.declared.end.JobEnd.{JobEnd}
use Rattle.race_core.specs.declared.event.Judged.TheVariants as progress
use Rattle.race_law.specs.World.{Script, Race, plain}

-- a job's entry: the answer of a finding that settles it, or none where none does
abbrev pub IsEntry : {T : Type 0} → (T → Answer) → (T → Type 0) → Option Answer → Type 0
IsEntry {T} answer settles (Some a) = (f : T) × settles f × (answer f ≡ a)
IsEntry {T} answer settles None = (f : T) → settles f → ⊥

-- one entry per job
pub record AreAnswers {T : Type 0} (answer : T → Answer) (settles : ℕ → T → Type 0) (jobs : ℕ) (answers : List (Option Answer)) : Type 0 where
  pub size : length answers ≡ jobs
  pub entry : (k : ℕ) (o : Option Answer) → slice_get answers k ≡ Some o → IsEntry answer (settles k) o

-- what the ends of the unsettled jobs say
pub record AreEvents {T : Type 0} (lanes jobs : ℕ) (settles : ℕ → T → Type 0) (ends : ℕ → ℕ → JobEnd T) (events : List Event) : Type 0 where
  pub come : (e : Event) → Contains events e → (i : ℕ) × (k : ℕ) × (i < lanes) × (k < jobs) × ((f : T) → settles k f → ⊥) × (told_by (ends i k) ≡ e)
  pub all : (i k : ℕ) → i < lanes → k < jobs → ((f : T) → settles k f → ⊥) → Contains events (told_by (ends i k))

-- the status of a task
pub record TaskStatus {T : Type 0} (mode : Mode) (answer : T → Answer) (lanes jobs : ℕ) (settles : ℕ → T → Type 0) (ends : ℕ → ℕ → JobEnd T) (status : Status) : Type 0 where
  pub answers : List (Option Answer)
  pub are_answers : AreAnswers answer settles jobs answers
  pub decided : Option Verdict
  pub decides : Decided mode answers decided
  pub events : List Event
  pub are_events : AreEvents lanes jobs settles ends events
  pub has_status : HasStatus decided events status

-- a finding for the job that an end of the race carries
abbrev pub RaceSettles : {T : Type 0} → (ℕ → T → Type 0) → Race T → (ℕ → ℕ → JobEnd T) → ℕ → T → Type 0
RaceSettles IsFor race ends k f = (i : ℕ) × (j : ℕ) × (i < race.lanes) × (j < race.jobs) × Carries (ends i j) f × IsFor k f

-- a finding for the job that a script is judged as
abbrev pub PlainSettles : {T : Type 0} → (ℕ → T → Type 0) → Race T → ℕ → T → Type 0
PlainSettles {T} IsFor race k f = (i : ℕ) × (s : Script T) × (race.script i k ≡ Some s) × (plain s ≡ progress.Found f) × IsFor k f
