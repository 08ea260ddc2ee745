use Rattle.std.proofs.Common.{◌≡◌, ◌≤◌, length, drop}
use Rattle.std.specs.Prelude.{reverse}
use Rattle.design_signals.specs.Parts.{row_of}
use Rattle.design_signals.proofs.segments.turned.Given as goal

abbrev pub invariant-loop-left : goal.invariant-loop-left
invariant-loop-left l = record {
  same : l.signal ≡ reverse (row_of (drop l.left l.chunks));
  within : l.left ≤ length l.chunks;
}

abbrev pub decreases-loop-left : goal.decreases-loop-left
decreases-loop-left l = l.left
