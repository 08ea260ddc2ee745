use Rattle.std.proofs.Common.{◌≡◌, map, take, string_bytes}
use Rattle.sby_task.specs.Values.{words_text}
use Rattle.sby_task.proofs.values.words_text.Given as goal

abbrev pub invariant-loop-word : goal.invariant-loop-word
invariant-loop-word l = string_bytes l.text ≡ words_text (map string_bytes (take l.word-index l.words))
