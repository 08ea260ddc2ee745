use Rattle.std.proofs.Common.{◌≡◌, ◌≤◌, drop, length}
use Rattle.btor_text.specs.Reading.{bits_back}
use Rattle.btor_text.proofs.reading.bits_of.Given as goal

abbrev pub invariant-loop-place : goal.invariant-loop-place
invariant-loop-place l = (l.place ≤ length l.digits) × (l.bits.items ≡ bits_back (drop l.place l.digits))

abbrev pub decreases-loop-place : goal.decreases-loop-place
decreases-loop-place l = l.place
