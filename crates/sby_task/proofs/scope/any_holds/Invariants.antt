use Rattle.std.proofs.Common.{◌≡◌, drop, map, string_bytes}
use Rattle.sby_file.specs.Names.{has}
use Rattle.sby_task.specs.Scope.{any_holds}
use Rattle.sby_task.proofs.scope.any_holds.Given as goal

abbrev pub invariant-loop-word : goal.invariant-loop-word
invariant-loop-word l = any_holds (has l.names) (map string_bytes (drop l.word-index l.prefix)) ≡ any_holds (has l.names) (map string_bytes l.prefix)
