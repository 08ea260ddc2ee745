-- What a race takes before its first child.
use Rattle.std.specs.Prelude.{◌≡◌, ℕ, List, Option, Some, length, slice_get}
use Rattle.jobs_pool.specs.Places.{PoolOf}
use Rattle.sby_edge.specs.Child.{YardOf, new_bay}
use Rattle.lane_run.specs.Raced.{AreReady, bays_of, pool_of}
use Rattle.task_race.specs.Bays.{BackOf, none_failed}
use Rattle.task_race.specs.Ran.{RacingOf, job_count}
use Rattle.task_race.specs.declared.prepare.PreparedRace.{PreparedRace}

-- the bays of a prepared race, of lane 0, 1 and so on
abbrev pub bays_in : {L : Type 0} → PreparedRace L → List L
bays_in prepared = bays_of prepared.lanes

-- A race for which all memory is taken: it has a cell for each job, and for each engine line a lane that can run, under the
-- allowance of this pool, or none.
pub record IsPrepared {L : Type 0} (racing : RacingOf) (pool : Option PoolOf) (prepared : PreparedRace L) : Type 0 where
  pub cells : length prepared.cells ≡ job_count racing
  pub lanes : AreReady prepared.cells prepared.lanes
  pub many : length (bays_in prepared) ≡ length racing.engines
  pub places : pool_of prepared.lanes ≡ pool

-- the bays of a task's lanes as they are made, over scripts that are told: nothing was started in them, and no call failed
abbrev pub AreNew : Option YardOf → ℕ → List BackOf → Type 0
AreNew scripts task bays = (lane : ℕ) (bay : BackOf) → slice_get bays lane ≡ Some bay → (bay.told ≡ new_bay scripts task lane) × (bay.counts ≡ none_failed)
