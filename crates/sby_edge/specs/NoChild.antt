-- The hold of a child that never started.
use Rattle.std.specs.Prelude.{ℕ, Bool}

-- whether `kill` and `reap` were called, and the count of faults
pub record NoHoldOf : Type 0 where
  pub is_killed : Bool
  pub is_reaped : Bool
  pub faults : ℕ
