use Rattle.std.proofs.Common.{◌≡◌, length}
use Rattle.design_signals.specs.Chunks.{bits_of}
use Rattle.design_signals.proofs.bits.is_same.Given as goal

abbrev pub invariant-bits : goal.invariant-bits
invariant-bits l = record {
  whole : l.left ≡ l.right → bits_of l.chunks ≡ bits_of l.others;
  parts : bits_of l.chunks ≡ bits_of l.others → l.left ≡ l.right;
}

abbrev pub decreases-bits : goal.decreases-bits
decreases-bits l = length l.left
