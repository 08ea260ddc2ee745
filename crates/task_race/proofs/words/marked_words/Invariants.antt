use Rattle.std.proofs.Common.{◌≡◌, map, string_bytes, take}
use Rattle.task_race.specs.Words.{with_paths}
use Rattle.task_race.proofs.words.marked_words.Given as goal

abbrev pub invariant-loop-word : goal.invariant-loop-word
invariant-loop-word l = map string_bytes l.replaced.items ≡ map (with_paths l.path l.proof) (map string_bytes (take l.word-index l.words))
