use Rattle.std.proofs.Common.{ℕ, ◌<◌}
use Rattle.design_check.specs.Faults.{IsConflict}
use Rattle.design_check.proofs.conflicts.first_conflict.Given as goal

abbrev pub invariant-loop-place : goal.invariant-loop-place
invariant-loop-place l = (i k : ℕ) → i < l.place → IsConflict l.design i k → ⊥
