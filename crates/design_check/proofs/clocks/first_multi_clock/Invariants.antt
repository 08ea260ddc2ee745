use Rattle.std.proofs.Common.{◌≡◌, ℕ, ◌<◌, true, Some}
use Rattle.std.specs.Prelude.{slice_get}
use Rattle.design_core.specs.Shape.{CellOf}
use Rattle.design_core.specs.Table.{is_clocked}
use Rattle.design_check.specs.Faults.{IsOneClock}
use Rattle.design_check.proofs.clocks.first_multi_clock.Given as goal

abbrev pub invariant-loop-place : goal.invariant-loop-place
invariant-loop-place l = (k : ℕ) (c : CellOf) → k < l.place → slice_get l.cells k ≡ Some c → is_clocked c.kind ≡ true → IsOneClock l.design l.clock c
