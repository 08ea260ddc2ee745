use Rattle.std.proofs.Common.{◌≡◌, ◌-◌, ◌≤◌, ◌++◌, length, take}
use Rattle.sby_edge.proofs.source.fill.Given as goal

abbrev pub invariant-loop-filled : goal.invariant-loop-filled
invariant-loop-filled g l = record {
  told : g.S.Source.rest l.fn.source ≡ take l.filled l.buffer ++ g.S.Source.rest l.source;
  within : l.filled ≤ length l.buffer;
}

abbrev pub decreases-loop-filled : goal.decreases-loop-filled
decreases-loop-filled g l = length l.buffer - l.filled
