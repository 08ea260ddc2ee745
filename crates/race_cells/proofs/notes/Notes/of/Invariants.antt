use Rattle.std.proofs.Common.{◌≡◌, map, take}
use Rattle.race_cells.specs.Notes.{fresh}
use Rattle.once_cell.specs.Once.{cell_name}
use Rattle.race_cells.proofs.notes.Notes.of.Given as goal

abbrev pub invariant-loop-cell : goal.invariant-loop-cell
invariant-loop-cell g l = l.notes.items ≡ map fresh (map cell_name (take l.cell-index l.cells))
