use Rattle.std.proofs.Common.{◌≡◌, ◌≤◌, ◌++◌, drop, length, map, reverse}
use Rattle.design_trace.specs.Trace.{digit}
use Rattle.design_trace.proofs.writing.put_bits.Given as goal

abbrev pub invariant-bits : goal.invariant-bits
invariant-bits l = (l.place ≤ length l.bits) × (l.text.items ≡ l.fn.text.items ++ map digit (reverse (drop l.place l.bits)))

abbrev pub decreases-bits : goal.decreases-bits
decreases-bits l = l.place
