use Rattle.std.proofs.Common.{◌≡◌, ◌+◌, ◌≤◌, ◌++◌, length, take, drop}
use Rattle.design_signals.specs.Chunks.{bits_of}
use Rattle.design_signals.proofs.signal.Signal.slice.Given as goal

abbrev pub invariant-loop-chunk : goal.invariant-loop-chunk
invariant-loop-chunk l = record {
  same : l.kept ++ take l.left (drop l.skip (bits_of (drop l.chunk-index l.chunk-items))) ≡ take l.width (drop l.low l.self);
  within : l.skip + l.left ≤ length (bits_of (drop l.chunk-index l.chunk-items));
}
