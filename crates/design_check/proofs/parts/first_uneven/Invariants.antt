use Rattle.std.proofs.Common.{◌≡◌, ℕ, ◌<◌, Some, length}
use Rattle.std.specs.Prelude.{slice_get}
use Rattle.design_core.specs.Shape.{ConnectOf}
use Rattle.design_check.proofs.parts.first_uneven.Given as goal

abbrev pub invariant-loop-place : goal.invariant-loop-place
invariant-loop-place l = (k : ℕ) (j : ConnectOf) → k < l.place → slice_get l.connects k ≡ Some j → length j.left ≡ length j.right
