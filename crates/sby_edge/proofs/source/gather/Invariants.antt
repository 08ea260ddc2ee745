use Rattle.std.proofs.Common.{◌≡◌, ◌++◌, length}
use Rattle.sby_edge.proofs.source.gather.Given as goal

abbrev pub invariant-loop-bytes : goal.invariant-loop-bytes
invariant-loop-bytes g l = record {
  told : g.S.Source.rest l.fn.source ≡ l.bytes.items ++ g.S.Source.rest l.source;
  size : length l.buffer ≡ 4096;
}

abbrev pub decreases-loop-bytes : goal.decreases-loop-bytes
decreases-loop-bytes g l = length (g.S.Source.rest l.source)
