-- What the lanes of a race have done.
use Rattle.std.specs.Prelude.{◌≡◌, ℕ, ◌<◌, ◌≤◌, All, List, [], Option, Some, length, map, option_map, replicate, slice_get, slice_index_or, vec_capacity}
use Rattle.jobs_pool.specs.Places.{PoolOf}
use Rattle.race_cells.specs.Notes.{NoteOf, AreNotesOf}
use Rattle.race_core.specs.Parts.{Terms}
use Rattle.race_core.specs.Report.{ReportOf, no_events}
use Rattle.lane_berth.specs.Berths.{IsFree}
use Rattle.lane_run.specs.Done.{LaneSoFar}
use Rattle.lane_run.specs.declared.prepare.FreshLanes.{FreshLanes}
use Rattle.lane_run.specs.declared.racing.Lane.{Lane}

-- Each lane, one report of each in their order, has done all its jobs, and one note knows what their events say.
pub record LanesDone {T : Type 0} (For : ℕ → T → Type 0) (serves : ℕ → ℕ → Type 0) (terms : ℕ → Terms T) (may_read : ℕ → Type 0) (jobs : ℕ)
    (notes : List (NoteOf T)) (reports : List (ReportOf T)) : Type 0 where
  pub places : (i : ℕ) (r : ReportOf T) → slice_get reports i ≡ Some r → (r.lane ≡ i) × (r.jobs ≡ jobs)
  pub each : (i : ℕ) (r : ReportOf T) → slice_get reports i ≡ Some r → LaneSoFar For (serves i) terms may_read jobs notes r

-- a lane that can run: nothing is done yet, and its notes are of the task's cells
abbrev pub IsReady : {T : Type 0} → List ℕ → ReportOf T → List (NoteOf T) → Type 0
IsReady cells r notes = (r.jobs ≡ length cells) × (r.ends ≡ []) × (r.events ≡ replicate r.jobs no_events) × AreNotesOf cells notes

-- a lane that has run: all its jobs are done
abbrev pub HasDone : {T : Type 0} → (ℕ → T → Type 0) → (ℕ → ℕ → Type 0) → (ℕ → Terms T) → (ℕ → Type 0) → List ℕ → ReportOf T → List (NoteOf T) → Type 0
HasDone For serves terms may_read cells r notes =
    LaneSoFar For (serves r.lane) terms may_read (length cells) notes r × (r.jobs ≡ length cells) × AreNotesOf cells notes

-- the bays of lanes, in their order
abbrev pub bays_of : {L T : Type 0} → FreshLanes L T → List L
bays_of fresh = map (λ l. l.bay.bay) fresh.lanes.items

-- the pool of their places, where there is an allowance
abbrev pub pool_of : {L T : Type 0} → FreshLanes L T → Option PoolOf
pool_of fresh = option_map (λ p. p.now) fresh.pool

-- Lanes that can run, counted from 0 in their order; what they leave has room, and a note of the cells that knows nothing yet of theirs; and
-- their berths are free.
pub record AreReady {L T : Type 0} (cells : List ℕ) (fresh : FreshLanes L T) : Type 0 where
  pub each : All (λ l. IsReady cells l.report l.notes) fresh.lanes.items
  pub places : (i : ℕ) (d : Lane L T) → i < length fresh.lanes.items → (slice_index_or fresh.lanes.items i d).report.lane ≡ i
  pub bays : (fresh.raced.bays.items ≡ []) × (length fresh.lanes.items ≤ vec_capacity fresh.raced.bays)
  pub reports : (fresh.raced.reports.items ≡ []) × (length fresh.lanes.items ≤ vec_capacity fresh.raced.reports)
  pub notes : AreNotesOf cells fresh.raced.notes
  pub free : All (λ l. IsFree (pool_of fresh) l.bay) fresh.lanes.items
