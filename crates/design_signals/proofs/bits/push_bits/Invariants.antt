use Rattle.std.proofs.Common.{◌≡◌, ◌++◌, drop}
use Rattle.design_signals.specs.Chunks.{bits_of}
use Rattle.design_signals.proofs.bits.push_bits.Given as goal

abbrev pub invariant-loop-chunk : goal.invariant-loop-chunk
invariant-loop-chunk l = l.bits.items ++ bits_of (drop l.chunk-index l.chunks) ≡ l.fn.bits.items ++ bits_of l.chunks
