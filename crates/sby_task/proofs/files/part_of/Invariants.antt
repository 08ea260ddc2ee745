use Rattle.std.proofs.Common.{◌≡◌, drop}
use Rattle.sby_task.specs.Files.{part_of, part_from}
use Rattle.sby_task.proofs.files.part_of.Given as goal

abbrev pub invariant-loop-b : goal.invariant-loop-b
invariant-loop-b l = part_from l.part.items (drop l.b-index l.path) ≡ part_of l.path
