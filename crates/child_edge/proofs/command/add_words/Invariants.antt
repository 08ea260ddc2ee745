use Rattle.std.proofs.Common.{◌≡◌, ◌++◌, map, string_bytes, take}
use Rattle.std.specs.Process.{command_args}
use Rattle.child_edge.proofs.command.add_words.Given as goal

abbrev pub invariant-loop-word : goal.invariant-loop-word
invariant-loop-word l = command_args l.command ≡ command_args l.fn.command ++ map string_bytes (take l.word-index l.words)
