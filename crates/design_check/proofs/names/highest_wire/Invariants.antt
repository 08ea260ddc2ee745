use Rattle.std.proofs.Common.{◌≡◌, ◌≤◌, None, drop, length}
use Rattle.design_check.specs.Faults.{highest_wire}
use Rattle.design_signals.specs.Chunks.{bits_of}
use Rattle.design_check.proofs.names.highest_wire.Given as goal

abbrev pub invariant-loop-place : goal.invariant-loop-place
invariant-loop-place l = record {
  within : l.place ≤ length l.chunks;
  none : highest_wire (bits_of (drop l.place l.chunks)) ≡ None;
}

abbrev pub decreases-loop-place : goal.decreases-loop-place
decreases-loop-place l = l.place
