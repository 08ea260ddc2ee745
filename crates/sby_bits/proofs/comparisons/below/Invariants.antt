use Rattle.std.proofs.Common.{◌≡◌, nat_lt, take}
use Rattle.sby_bits.specs.Rows.{num}
use Rattle.sby_bits.proofs.comparisons.below.Given as goal

abbrev pub invariant-loop-i : goal.invariant-loop-i
invariant-loop-i l = l.below ≡ nat_lt (num (take l.i l.a)) (num (take l.i l.b))
