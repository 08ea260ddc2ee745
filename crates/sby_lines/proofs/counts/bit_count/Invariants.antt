use Rattle.std.proofs.Common.{◌≡◌, ◌+◌, ◌*◌, ◌^◌, ◌≤◌, length, drop}
use Rattle.design_signals.specs.Chunks.{bits_of}
use Rattle.sby_lines.proofs.counts.bit_count.Given as goal

abbrev pub invariant-loop-chunk : goal.invariant-loop-chunk
invariant-loop-chunk l = record {
  counted : l.count + length (bits_of (drop l.chunk-index l.chunks)) ≡ length (bits_of l.chunks);
  most : l.count ≤ l.chunk-index * 2 ^ 32;
}
