use Rattle.std.proofs.Common.{◌≡◌, ◌≤◌, ◌++◌, length, drop, All}
use Rattle.std.specs.Prelude.{reverse}
use Rattle.design_signals.specs.Chunks.{IsChunk}
use Rattle.design_signals.proofs.segments.push_turned.Given as goal

abbrev pub invariant-chunks : goal.invariant-chunks
invariant-chunks l = record {
  same : l.chunks.items ≡ l.fn.chunks.items ++ reverse (drop l.left l.more);
  each : All IsChunk l.chunks.items;
  long : length l.fn.chunks.items ≤ length l.chunks.items;
  within : l.left ≤ length l.more;
}

abbrev pub decreases-chunks : goal.decreases-chunks
decreases-chunks l = l.left
