use Rattle.std.proofs.Common.{◌≡◌, length}
use Rattle.race_cells.proofs.cells.Cells.new.Given as goal

abbrev pub invariant-loop : goal.invariant-loop
invariant-loop g l = length l.cells.items ≡ l.counter
