use Rattle.std.proofs.Common.{◌≡◌, ◌<◌, length, slice_get, drop}
use Rattle.design_signals.specs.Chunks.{bits_of}
use Rattle.design_signals.proofs.signal.Signal.bit.Given as goal

abbrev pub invariant-loop-chunk : goal.invariant-loop-chunk
invariant-loop-chunk l = record {
  same : slice_get (bits_of (drop l.chunk-index l.chunk-items)) l.left ≡ slice_get l.self l.place;
  within : l.left < length (bits_of (drop l.chunk-index l.chunk-items));
}
