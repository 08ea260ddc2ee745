use Rattle.std.proofs.Common.{◌≡◌, ◌<◌, ℕ, false, get_or, not}
use Rattle.cell_rows.proofs.bitwise.complement.Given as goal

abbrev pub invariant-loop-i : goal.invariant-loop-i
invariant-loop-i l = (k : ℕ) → k < l.i → get_or l.y k false ≡ not (get_or l.a k l.fill)
