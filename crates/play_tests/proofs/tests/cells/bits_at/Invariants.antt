use Rattle.std.proofs.Common.{◌≡◌, length}
use Rattle.play_tests.proofs.tests.cells.bits_at.Given as goal

abbrev pub invariant-loop-place : goal.invariant-loop-place
invariant-loop-place l = length l.bits.items ≡ l.place-index
