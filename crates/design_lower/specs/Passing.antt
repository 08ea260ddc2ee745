-- What is known of the design in the making, once some cells are through.
use Rattle.std.specs.Prelude.{◌≡◌, ℕ, List, All}
use Rattle.design_core.specs.Shape.{CellOf, DesignOf, IsCellOf, IsDeclared}
use Rattle.design_signals.specs.declared.sig_bit.SigBit.{SigBit}
use Rattle.design_lower.specs.Progress.{IsMidway}

-- The first i cells of d are through; the `$mux` cells still wait, and speak of bits that are there.
pub record IsPassing (d : DesignOf) (i : ℕ) (low : DesignOf) (muxes : List CellOf) (number : ℕ) : Type 0 where
  pub same : low ≡ record d { wires = low.wires; cells = low.cells; connects = low.connects }
  pub declared : (b : SigBit) → IsDeclared d.wires d.free b → IsDeclared low.wires d.free b
  pub waiting : All (IsCellOf low.wires d.free) muxes
  pub midway : IsMidway d i low.wires low.cells muxes number
