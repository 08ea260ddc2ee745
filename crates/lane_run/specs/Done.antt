-- What a lane has done of its jobs.
use Rattle.std.specs.Prelude.{◌≡◌, ◌⊎◌, ℕ, ◌-◌, ◌<◌, ◌≤◌, List, ◌∷◌, ◌++◌, length, Some, IsSomeAnd, Contains}
use Rattle.sby_edge.specs.Cause.{CountsOf, Rose}
use Rattle.race_cells.specs.Notes.{NoteOf, known_at}
use Rattle.race_core.specs.Carrying.{Carries, KnewBy, Looked}
use Rattle.race_core.specs.Consistent.{Replayed, end_at, events_at}
use Rattle.race_core.specs.Ends.{IsLast}
use Rattle.race_core.specs.Parts.{RightKeeper, RightReader, Terms, keeper_of, place_of, reader_of}
use Rattle.race_core.specs.Report.{EventsOf, ReportOf, no_events}
use Rattle.race_core.specs.declared.end.JobEnd.{JobEnd}
use Rattle.race_core.specs.declared.end.JobEnd.TheVariants as end
use Rattle.race_core.specs.declared.event.LaneEvent.{LaneEvent}
use Rattle.race_core.specs.declared.event.LaneEvent.TheVariants as event
use Rattle.race_core.specs.declared.part.Place.TheVariants.{Away}
use Rattle.lane_run.specs.Keeping.{HasReading}
use Rattle.lane_run.specs.Reading.{IfWon}
use Rattle.lane_run.specs.declared.task.Limit.{Limit}

-- the last reading of a list
abbrev pub IsLastReading : {T : Type 0} → ℕ → List (LaneEvent T) → Type 0
IsLastReading {T} r events = (front : List (LaneEvent T)) × (back : List (LaneEvent T)) × (events ≡ front ++ event.Clock r ∷ back) × ((t : ℕ) → HasReading t back → ⊥)

-- a finding that a lane knows by its jobs so far: its own, or one that a look showed
abbrev pub KnownIn : {T : Type 0} → ReportOf T → T → Type 0
KnownIn {T} r f = Contains r.ends (end.Found f) ⊎ ((es : EventsOf T) × Contains r.events es × ((c : ℕ) × Contains es.keeper (event.Look c (Some f))))

-- A job that a lane has done. Its end follows from its events, which keep no place; every finding that it carries, won or looked at is one of the problem
-- for the job of its place, and the lane's notes know what was won or looked at; and its readings are ones that the clock may give.
pub record JobDone {T : Type 0} (For : ℕ → T → Type 0) (serves : Type 0) (a : Terms T) (known : T → Type 0) (may_read : ℕ → Type 0) (place : ℕ)
    (notes : List (NoteOf T)) (es : EventsOf T) (e : JobEnd T) : Type 0 where
  pub right_reader : RightReader (reader_of es)
  pub right_keeper : RightKeeper (keeper_of a es)
  pub away : place_of es ≡ Away
  pub replayed : Replayed serves a known es e
  pub carried : (f : T) → Carries e f → (k : ℕ) × For k f
  pub won : IfWon (reader_of es) (λ f. For place f × (known_at notes place ≡ Some f))
  pub looks : (c : ℕ) (f : T) → Looked c f es.keeper → For c f × (known_at notes c ≡ Some f)
  pub readings : (r : ℕ) → HasReading r es.keeper → may_read r

-- A job after one that ended the lane's work has that one's end, and no events.
abbrev pub CameLate : {T : Type 0} → ReportOf T → ℕ → Type 0
CameLate r j = (l : ℕ) × (l < j) × IsLast (end_at r l) × (end_at r j ≡ end_at r l) × (events_at r j ≡ no_events)

-- the first jobs of a lane, done in their order
pub record LaneSoFar {T : Type 0} (For : ℕ → T → Type 0) (serves : ℕ → Type 0) (terms : ℕ → Terms T) (may_read : ℕ → Type 0) (n : ℕ)
    (notes : List (NoteOf T)) (r : ReportOf T) : Type 0 where
  pub ends : length r.ends ≡ n
  pub events : length r.events ≡ r.jobs
  pub left : (j : ℕ) → n ≤ j → events_at r j ≡ no_events
  pub each : (j : ℕ) → j < n
      → (((l : ℕ) → l < j → IsLast (end_at r l) → ⊥) × JobDone For (serves j) (terms j) (KnewBy (events_at r) j) may_read j notes (events_at r j) (end_at r j))
      ⊎ CameLate r j

-- the counts of failed calls between two moments: none fell, and an end that tells of a failed call comes only where its count rose
pub record JobFaults {T : Type 0} (before now : CountsOf) (e : JobEnd T) : Type 0 where
  pub later : (before.starts ≤ now.starts) × (before.reads ≤ now.reads) × (before.holds ≤ now.holds)
  pub start : e ≡ end.StartFailed → Rose before.starts now.starts
  pub read : e ≡ end.ReadFailed → Rose before.reads now.reads
  pub hold : e ≡ end.HoldFailed → Rose before.holds now.holds

-- the same of the ends of a lane's first jobs
pub record LaneFaults {T : Type 0} (before now : CountsOf) (n : ℕ) (r : ReportOf T) : Type 0 where
  pub later : (before.starts ≤ now.starts) × (before.reads ≤ now.reads) × (before.holds ≤ now.holds)
  pub each : (j : ℕ) → j < n → JobFaults before now (end_at r j)

-- An earlier report's first jobs stand in a later one.
abbrev pub Stand : {T : Type 0} → ℕ → ReportOf T → ReportOf T → Type 0
Stand n r r' = (j : ℕ) → j < n → (end_at r' j ≡ end_at r j) × (events_at r' j ≡ events_at r j)

-- A job is stopped by the last reading of its lane's keeper, its own or that of an earlier job. The clock may give that reading, and the
-- lane's start; it is the limit or more after the start.
pub record IsStopped {T : Type 0} (may_read : ℕ → Type 0) (limit : Limit) (j t : ℕ) (r : ReportOf T) : Type 0 where
  pub job : ℕ
  pub within : job ≤ j
  pub last : IsLastReading t (events_at r job).keeper
  pub behind : (k : ℕ) → job < k → events_at r k ≡ no_events
  pub reading : may_read t
  pub start : may_read limit.start
  pub shows : IsSomeAnd limit.millis (λ millis. (limit.start ≤ t) × (millis ≤ t - limit.start))

-- so is each of the lane's first jobs that ends so
abbrev pub LaneStops : {T : Type 0} → (ℕ → Type 0) → Limit → ℕ → ReportOf T → Type 0
LaneStops may_read limit n r = (j t : ℕ) → j < n → end_at r j ≡ end.Stopped t → IsStopped may_read limit j t r
