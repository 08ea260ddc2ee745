-- How a lane's wait for a place ends.
use Rattle.std.specs.Prelude.{◌≡◌, ◌≢◌, ℕ, ◌≤◌, Option, None, Some}
use Rattle.race_core.specs.Ends.{EndIs}
use Rattle.race_core.specs.Parts.{RightKeeper, Terms}
use Rattle.race_core.specs.declared.end.JobEnd.{JobEnd}
use Rattle.race_core.specs.declared.part.Keeper.{Keeper}
use Rattle.race_core.specs.declared.part.Keeper.TheVariants as keeper
use Rattle.race_core.specs.declared.part.Place.{Place}
use Rattle.race_core.specs.declared.part.Place.TheVariants as place
use Rattle.race_core.specs.declared.part.Reader.TheVariants as reader
use Rattle.lane_berth.specs.Berths.{BerthOf, IsIdle, MayStart}
use Rattle.lane_run.specs.Placed.{place_at}
use Rattle.lane_run.specs.Keeping.{TakesTurns}
use Rattle.lane_run.specs.Starting.{Unstarted}

-- a child may be started, and its list has room for what follows; or the job ended without one
abbrev pub WaitedFor : {L T : Type 0} → Terms T → BerthOf L → Keeper T → Place → ℕ → Option (JobEnd T) → Type 0
WaitedFor a berth k p room None = MayStart berth × TakesTurns k × (p ≡ place_at berth.pool berth.holds) × (5 ≤ room)
WaitedFor a berth k p room (Some e) =
    IsIdle berth × Unstarted berth.pool e × RightKeeper k × (k ≢ keeper.Fresh) × EndIs a (λ _. ⊥) reader.Fresh k e × (p ≡ place.Away)
