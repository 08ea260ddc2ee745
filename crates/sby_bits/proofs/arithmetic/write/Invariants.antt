use Rattle.std.proofs.Common.{◌≡◌, ℕ, ◌<◌, ◌/◌, ◌%◌, ◌^◌, eqb, false, get_or}
use Rattle.sby_bits.proofs.arithmetic.write.Given as goal

abbrev pub invariant-loop-i : goal.invariant-loop-i
invariant-loop-i l = (k : ℕ) → k < l.i → get_or l.y k false ≡ eqb (l.n / 2 ^ k % 2) 1
