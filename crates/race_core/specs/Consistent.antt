-- Consistent reports: what holds of the reports of a race by themselves, with no world.
use Rattle.race_core.specs.Carrying.{Looked, KnewBy, Carries}
use Rattle.std.specs.Prelude.{◌≡◌, ◌⊎◌, ℕ, ◌<◌, true, List, Some, length, slice_index_or, slice_get}
use Rattle.race_core.specs.Report.{EventsOf, ReportOf, no_events}
use Rattle.race_core.specs.Parts.{Terms, reader_of, keeper_of, place_of, RightReader, RightKeeper}
use Rattle.race_core.specs.Ends.{EndIs, UnservedEndIs, IsLast}
use Rattle.race_core.specs.declared.end.JobEnd.{JobEnd}
use Rattle.race_core.specs.declared.end.JobEnd.TheVariants as end
use Rattle.race_core.specs.declared.part.By.{By}
use Rattle.race_core.specs.declared.part.Place.TheVariants as place
use Rattle.race_core.specs.declared.part.Reader.TheVariants as reader

abbrev pub events_at : {T : Type 0} → ReportOf T → ℕ → EventsOf T
events_at r j = slice_index_or r.events j no_events

abbrev pub end_at : {T : Type 0} → ReportOf T → ℕ → JobEnd T
end_at r j = slice_index_or r.ends j end.NotServed

-- a job's end follows from the lane's events, where the lane serves it and where not
abbrev pub Replayed : {T : Type 0} → Type 0 → Terms T → (T → Type 0) → EventsOf T → JobEnd T → Type 0
Replayed serves a known es e =
    (serves × EndIs a known (reader_of es) (keeper_of a es) e) ⊎ ((serves → ⊥) × UnservedEndIs a known (reader_of es) (keeper_of a es) e)

-- A report's events give its ends, job by job. Each start stands between a place that was taken and its return, and no place is kept.
pub record Replays {T : Type 0} (serves : ℕ → Type 0) (terms : ℕ → Terms T) (jobs : ℕ) (r : ReportOf T) : Type 0 where
  pub ends : length r.ends ≡ jobs
  pub events : length r.events ≡ jobs
  pub right_reader : (j : ℕ) → j < jobs → RightReader (reader_of (events_at r j))
  pub right_keeper : (j : ℕ) → j < jobs → RightKeeper (keeper_of (terms j) (events_at r j))
  pub place : (j : ℕ) → j < jobs → place_of (events_at r j) ≡ place.Away
  pub each : (j : ℕ) → j < jobs
      → (((l : ℕ) → l < j → IsLast (end_at r l) → ⊥) × Replayed (serves j) (terms j) (KnewBy (events_at r) j) (events_at r j) (end_at r j))
      ⊎ ((l : ℕ) × (l < j) × IsLast (end_at r l) × (end_at r j ≡ end_at r l) × (events_at r j ≡ no_events))

-- what a report says that its lane knew of a cell: by a settle that it won, or by a look
abbrev pub Tells : {T : Type 0} → ReportOf T → ℕ → T → Type 0
Tells r c f = ((b : By) × (reader_of (events_at r c) ≡ reader.Found f b true)) ⊎ ((j : ℕ) × Looked c f (events_at r j).keeper)

-- The reports are one of each lane, their events give their ends, every finding carried is for a job, and lanes agree on what a cell holds.
pub record Consistent {T : Type 0} (for : ℕ → T → Type 0) (serves : ℕ → ℕ → Type 0) (terms : ℕ → Terms T) (lanes jobs : ℕ) (reports : List (ReportOf T)) : Type 0 where
  pub lanes_are : length reports ≡ lanes
  pub places : (i : ℕ) (r : ReportOf T) → slice_get reports i ≡ Some r → r.lane ≡ i
  pub replays : (i : ℕ) (r : ReportOf T) → slice_get reports i ≡ Some r → Replays (serves i) terms jobs r
  pub carried : (i j : ℕ) (r : ReportOf T) (f : T) → slice_get reports i ≡ Some r → j < jobs → Carries (end_at r j) f → (k : ℕ) × for k f
  pub agree : (i k c : ℕ) (r q : ReportOf T) (f g : T) → slice_get reports i ≡ Some r → slice_get reports k ≡ Some q → Tells r c f → Tells q c g → f ≡ g

-- the reports are those of a world that ended so
pub record AreOf {T : Type 0} (events : ℕ → ℕ → EventsOf T) (ends : ℕ → ℕ → JobEnd T) (lanes jobs : ℕ) (reports : List (ReportOf T)) : Type 0 where
  pub lanes_are : length reports ≡ lanes
  pub places : (i : ℕ) (r : ReportOf T) → slice_get reports i ≡ Some r → (r.lane ≡ i) × (i < lanes)
  pub ends_size : (i : ℕ) (r : ReportOf T) → slice_get reports i ≡ Some r → length r.ends ≡ jobs
  pub events_size : (i : ℕ) (r : ReportOf T) → slice_get reports i ≡ Some r → length r.events ≡ jobs
  pub ends_are : (i j : ℕ) (r : ReportOf T) → slice_get reports i ≡ Some r → j < jobs → end_at r j ≡ ends i j
  pub events_are : (i : ℕ) (r : ReportOf T) → slice_get reports i ≡ Some r → (λ j. events_at r j) ≡ events i
