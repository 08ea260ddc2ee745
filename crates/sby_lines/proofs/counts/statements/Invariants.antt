use Rattle.std.proofs.Common.{◌≡◌, ◌≤◌, length, take}
use Rattle.std.specs.List.{filter}
use Rattle.design_core.specs.Shape.{CellOf}
use Rattle.sby_lines.specs.Counts.{is_statement}
use Rattle.sby_lines.proofs.counts.statements.Given as goal

abbrev pub invariant-loop-cell : goal.invariant-loop-cell
invariant-loop-cell l = record {
  few : l.count ≤ l.cell-index;
  sum : l.count ≡ length (filter (λ (c : CellOf). is_statement l.statement c.kind) (take l.cell-index l.cells));
}
