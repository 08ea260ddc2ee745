-- The names of a task's jobs.
use Rattle.std.specs.Prelude.{◌≡◌, ℕ, ◌<◌, ◌≤◌, List, length, Some, slice_get}
use Rattle.race_core.specs.Asking.{name_at}
use Rattle.sby_terms.specs.declared.names.JobName.{JobName}
use Rattle.sby_terms.specs.declared.names.Mode.{Mode}

-- these are jobs of the mode, in their order, and at least this many
pub record HasJobs (mode : Mode) (count : ℕ) (jobs : List JobName) : Type 0 where
  pub enough : count ≤ length jobs
  pub named : (k : ℕ) → k < length jobs → slice_get jobs k ≡ Some (name_at mode k)
