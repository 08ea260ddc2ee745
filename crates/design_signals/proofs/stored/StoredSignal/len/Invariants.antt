use Rattle.std.proofs.Common.{◌≡◌, ◌+◌, length, drop}
use Rattle.design_signals.specs.Chunks.{bits_of}
use Rattle.design_signals.proofs.stored.StoredSignal.len.Given as goal

abbrev pub invariant-loop-chunk : goal.invariant-loop-chunk
invariant-loop-chunk l = l.len + length (bits_of (drop l.chunk-index l.chunk-items)) ≡ length l.self
