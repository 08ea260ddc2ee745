use Rattle.std.proofs.Common.{◌≡◌, drop, map, string_bytes}
use Rattle.sby_task.specs.Expand.{tags_of}
use Rattle.sby_task.proofs.expansion.tags_of.Given as goal

abbrev pub invariant-loop-i : goal.invariant-loop-i
invariant-loop-i l = tags_of (map string_bytes (drop l.i l.tasks)) (drop l.i l.tags) l.name ≡ tags_of (map string_bytes l.tasks) l.tags l.name
