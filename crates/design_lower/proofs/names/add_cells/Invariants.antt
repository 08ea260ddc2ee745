use Rattle.std.proofs.Common.{take, map}
use Rattle.design_lower.specs.Progress.{Adds}
use Rattle.design_lower.proofs.names.add_cells.Given as goal

abbrev pub invariant-loop-cell : goal.invariant-loop-cell
invariant-loop-cell l = Adds l.fn.names l.names (map (λ x. x.name) (take l.cell-index l.cells))
