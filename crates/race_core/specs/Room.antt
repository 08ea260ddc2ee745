-- Room for the outcome of a race.
use Rattle.std.specs.Prelude.{◌≡◌, ◌≤◌, ◌*◌, ℕ, [], vec_capacity}
use Rattle.race_core.specs.declared.status.Room.{Room}

-- there is room for this many jobs and reports, and nothing is in it
pub record HasRoom (jobs reports : ℕ) (room : Room) : Type 0 where
  pub no_answers : room.answers.items ≡ []
  pub no_lanes : room.lanes.items ≡ []
  pub no_events : room.events.items ≡ []
  pub answers : jobs ≤ vec_capacity room.answers
  pub lanes : jobs ≤ vec_capacity room.lanes
  pub events : jobs * reports ≤ vec_capacity room.events
