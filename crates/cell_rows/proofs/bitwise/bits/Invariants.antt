use Rattle.std.proofs.Common.{◌≡◌, ◌<◌, ℕ, false, get_or}
use Rattle.cell_rows.specs.Bits.{bit_fn}
use Rattle.cell_rows.proofs.bitwise.bits.Given as goal

abbrev pub invariant-loop-i : goal.invariant-loop-i
invariant-loop-i l = (k : ℕ) → k < l.i → get_or l.y k false ≡ bit_fn l.kind (get_or l.a k l.fill_a) (get_or l.b k l.fill_b)
