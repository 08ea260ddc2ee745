use Rattle.std.proofs.Common.{◌≡◌, drop}
use Rattle.sby_task.specs.Files.{bytes_in}
use Rattle.sby_task.proofs.files.bytes_in.Given as goal

abbrev pub invariant-loop-file : goal.invariant-loop-file
invariant-loop-file l = bytes_in (drop l.file-index l.files) l.name ≡ bytes_in l.files l.name
