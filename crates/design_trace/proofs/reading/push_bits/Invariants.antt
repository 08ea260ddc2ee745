use Rattle.std.proofs.Common.{◌≡◌, ◌≤◌, ◌++◌, ◌==◌, drop, length, map, reverse}
use Rattle.design_trace.proofs.reading.push_bits.Given as goal

abbrev pub invariant-digits : goal.invariant-digits
invariant-digits l = (l.place ≤ length l.digits) × (l.row.items ≡ l.fn.row.items ++ map (λ x. x == 49) (reverse (drop l.place l.digits)))

abbrev pub decreases-digits : goal.decreases-digits
decreases-digits l = l.place
