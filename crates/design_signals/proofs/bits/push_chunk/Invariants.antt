use Rattle.std.proofs.Common.{◌≡◌, ◌++◌}
use Rattle.design_signals.specs.Chunks.{bits_from}
use Rattle.design_signals.proofs.bits.push_chunk.Given as goal

abbrev pub invariant-loop-place : goal.invariant-loop-place
invariant-loop-place l = l.bits.items ≡ l.fn.bits.items ++ bits_from l.chunk.first 0 l.place
