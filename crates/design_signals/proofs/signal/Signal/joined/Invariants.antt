use Rattle.std.proofs.Common.{◌≡◌, ◌++◌, drop}
use Rattle.design_signals.specs.Chunks.{bits_of}
use Rattle.design_signals.proofs.signal.Signal.joined.Given as goal

abbrev pub invariant-loop-chunk : goal.invariant-loop-chunk
invariant-loop-chunk l = l.whole ++ bits_of (drop l.chunk-index l.above) ≡ l.fn.self ++ bits_of l.above
