use Rattle.std.proofs.Common.{◌≡◌, ◌≤◌, ◌+◌, length}
use Rattle.net_lane.proofs.sending.count_source.Given as goal

abbrev pub invariant-loop-count : goal.invariant-loop-count
invariant-loop-count g l = record {
  counted : l.count + length (g.S.Source.rest l.source) ≡ length (g.S.Source.rest l.fn.source);
  within : l.count ≤ 4294967296;
  size : length l.buffer ≡ 4096;
}

abbrev pub decreases-loop-count : goal.decreases-loop-count
decreases-loop-count g l = length (g.S.Source.rest l.source)
