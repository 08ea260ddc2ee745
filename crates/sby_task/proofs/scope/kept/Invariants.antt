use Rattle.std.proofs.Common.{◌≡◌, ◌++◌, drop, true}
use Rattle.sby_file.specs.Names.{has}
use Rattle.sby_task.specs.Scope.{kept}
use Rattle.sby_task.proofs.scope.kept.Given as goal

abbrev pub invariant-loop-row : goal.invariant-loop-row
invariant-loop-row l = l.lines.items ++ kept (has l.names) l.block_holds (drop l.row-index l.rows) ≡ kept (has l.names) true l.rows
