use Rattle.std.proofs.Common.{◌≡◌, map, string_bytes, take}
use Rattle.sby_edge.proofs.script_yard.Started.new.Given as goal

abbrev pub invariant-loop-word : goal.invariant-loop-word
invariant-loop-word g l = map string_bytes l.copied.items ≡ map string_bytes (take l.word-index l.words)
