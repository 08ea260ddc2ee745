-- What a lane's jobs add to its bay's starts.
use Rattle.std.specs.Prelude.{◌≡◌, ◌⊎◌, ℕ, zero, suc, ◌<◌, List, [], ◌++◌, Option, option_map}
use Rattle.jobs_pool.specs.Places.{PoolOf}
use Rattle.sby_edge.specs.Child.{BayOf, StartOf}
use Rattle.sby_terms.specs.declared.names.JobName.{JobName}
use Rattle.sby_terms.specs.declared.names.Mode.{Mode}
use Rattle.race_core.specs.Asking.{name_at}
use Rattle.race_core.specs.Consistent.{end_at, events_at}
use Rattle.race_core.specs.Report.{EventsOf, ReportOf}
use Rattle.race_core.specs.declared.end.JobEnd.{JobEnd}
use Rattle.race_core.specs.declared.event.Judged.{Judged}
use Rattle.lane_run.specs.Starting.{ReadsScript, Starts, with_starts}
use Rattle.lane_run.specs.Done.{CameLate}

-- The starts of one job: none or one, which has its words and its file; what its reader read is of the script that the bay tells for it; and
-- until its reader was done, its child was killed by its keeper alone.
abbrev pub JobStarts : {T : Type 0} → Option PoolOf → (JobName → List (List ℕ)) → (JobName → List ℕ) → (stands ends proves : JobName → List ℕ → Judged T → Type 0) → ℕ → ℕ → JobName
    → Option BayOf → EventsOf T → JobEnd T → List StartOf → Type 0
JobStarts pool words file stands ends proves most most_output job bay es e starts =
    Starts pool job (words job) (file job) (ReadsScript (stands job) (ends job) (proves job) bay job most most_output es.reader) es.reader es.keeper e starts

-- the starts of the first jobs, one job's after the other's
abbrev pub starts_upto : ℕ → (ℕ → List StartOf) → List StartOf
starts_upto zero starts = []
starts_upto (suc n) starts = starts_upto n starts ++ starts n

-- The starts that a lane's first jobs added to its bay's, job by job, under the allowance of this pool, or none; a job after one that ended the lane's work has none.
pub record LaneStarts {T : Type 0} (pool : Option PoolOf) (words : JobName → List (List ℕ)) (file : JobName → List ℕ) (stands ends proves : JobName → List ℕ → Judged T → Type 0) (most most_output : ℕ) (mode : Mode)
    (before now : Option BayOf) (n : ℕ) (r : ReportOf T) : Type 0 where
  pub starts : ℕ → List StartOf
  pub told : now ≡ option_map (with_starts (starts_upto n starts)) before
  pub each : (j : ℕ) → j < n
      → (CameLate r j × (starts j ≡ []))
      ⊎ JobStarts pool words file stands ends proves most most_output (name_at mode j) before (events_at r j) (end_at r j) (starts j)
