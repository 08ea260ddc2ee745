use Rattle.std.proofs.Common.{◌≡◌, ℕ, ◌<◌, drop, length}
use Rattle.design_check.specs.Conflicts.{IsTwice}
use Rattle.design_signals.specs.Chunks.{bits_of}
use Rattle.design_check.proofs.conflicts.first_twice.Given as goal

abbrev pub invariant-bits : goal.invariant-bits
invariant-bits l = (i : ℕ) × (drop i (bits_of l.bits) ≡ l.left) × ((k : ℕ) → k < i → IsTwice l.design (bits_of l.bits) k → ⊥)

abbrev pub decreases-bits : goal.decreases-bits
decreases-bits l = length l.left
