use Rattle.std.proofs.Common.{◌≡◌, drop, Ok}
use Rattle.sby_task.specs.Draft.{blank}
use Rattle.sby_task.specs.Expand.{drafted}
use Rattle.sby_task.proofs.expansion.read_rows.Given as goal

abbrev pub invariant-loop-row : goal.invariant-loop-row
invariant-loop-row l = drafted l.files l.rows (Ok l.draft) (drop l.row-index l.rows) ≡ drafted l.files l.rows (Ok blank) l.rows
