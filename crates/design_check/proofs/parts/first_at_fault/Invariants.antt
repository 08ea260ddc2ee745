use Rattle.std.proofs.Common.{◌≡◌, ℕ, ◌<◌, Some}
use Rattle.std.specs.Prelude.{slice_get}
use Rattle.design_core.specs.Shape.{CellOf}
use Rattle.design_check.specs.Faults.{IsPartFault}
use Rattle.design_check.proofs.parts.first_at_fault.Given as goal

abbrev pub invariant-loop-place : goal.invariant-loop-place
invariant-loop-place l = (k : ℕ) (c : CellOf) → k < l.place → slice_get l.cells k ≡ Some c → IsPartFault l.kind c → ⊥
