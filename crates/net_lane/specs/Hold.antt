-- What the hold of a job on an engine elsewhere tells.
use Rattle.std.specs.Prelude.{ℕ, Bool, true, false, Option, None, Some}
use Rattle.sby_edge.specs.declared.script.Exit.{Exit}
use Rattle.sby_edge.specs.declared.script.Exit.TheVariants.{Code}

-- exit code 0, where it is told from the start or a reap gave it
abbrev pub exit_of : Bool → Bool → Option Exit
exit_of true is_reaped = Some (Code 0)
exit_of false true = Some (Code 0)
exit_of false false = None

-- what a hold tells, and the cut's count of faults
pub record NetHoldOf : Type 0 where
  pub killed : Option ℕ
  pub is_reaped : Bool
  pub exit : Option Exit
  pub faults : ℕ
  pub cut_faults : ℕ
