use Rattle.std.proofs.Common.{◌≡◌, ◌+◌, drop, length}
use Rattle.model_core.specs.Choices.{without_digit}
use Rattle.play_tests.proofs.tests.cells.open_bits.Given as goal

abbrev pub invariant-loop-k : goal.invariant-loop-k
invariant-loop-k l = length l.bits.items + length (without_digit (drop l.k l.places) (drop l.k l.starts)) ≡ length (without_digit l.places l.starts)
