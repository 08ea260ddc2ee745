use Rattle.std.proofs.Common.{◌≡◌, ◌++◌, All, length, reverse}
use Rattle.design_core.specs.Shape.{IsCellOf}
use Rattle.design_lower.proofs.lowering.add_cells.Given as goal

abbrev pub invariant-cells : goal.invariant-cells
invariant-cells l = record {
  others : l.low ≡ record l.fn.low { cells = l.low.cells };
  whole : l.low.cells ++ reverse l.rest.items ≡ l.fn.low.cells ++ l.fn.cells.items;
  each : All (IsCellOf l.fn.low.wires l.fn.low.free) l.rest.items;
}

abbrev pub decreases-cells : goal.decreases-cells
decreases-cells l = length l.rest.items
