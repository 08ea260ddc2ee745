use Rattle.std.proofs.Common.{◌≡◌, drop, None}
use Rattle.sby_task.specs.Files.{path_in}
use Rattle.sby_task.proofs.files.path_in.Given as goal

abbrev pub invariant-loop-row : goal.invariant-loop-row
invariant-loop-row l = path_in l.found (drop l.row-index l.rows) l.name ≡ path_in None l.rows l.name
