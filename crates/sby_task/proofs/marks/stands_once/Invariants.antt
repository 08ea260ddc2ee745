use Rattle.std.proofs.Common.{◌≡◌, ◌+◌, drop, map, string_bytes, cond}
use Rattle.sby_task.specs.Marks.{count}
use Rattle.sby_task.proofs.marks.stands_once.Given as goal

abbrev pub invariant-loop-word : goal.invariant-loop-word
invariant-loop-word l = cond l.seen 1 0 + count l.mark (map string_bytes (drop l.word-index l.words)) ≡ count l.mark (map string_bytes l.words)
