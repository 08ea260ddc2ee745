use Rattle.std.proofs.Common.{◌≡◌, ℕ, drop, length}
use Rattle.design_signals.specs.Chunks.{bits_of}
use Rattle.design_graph.proofs.Driving.{IsTaken}
use Rattle.design_graph.proofs.drivers.take_bits.Given as goal

abbrev pub invariant-bits : goal.invariant-bits
invariant-bits l = (i : ℕ) × (drop i (bits_of l.bits) ≡ l.left) × IsTaken l.design l.fn.taken (bits_of l.bits) i l.taken

abbrev pub decreases-bits : goal.decreases-bits
decreases-bits l = length l.left
