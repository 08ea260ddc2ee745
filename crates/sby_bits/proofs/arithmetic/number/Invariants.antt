use Rattle.std.proofs.Common.{◌≡◌, take}
use Rattle.sby_bits.specs.Rows.{num}
use Rattle.sby_bits.proofs.arithmetic.number.Given as goal

abbrev pub invariant-loop-i : goal.invariant-loop-i
invariant-loop-i l = l.n ≡ num (take l.i l.a)
