use Rattle.std.proofs.Common.{◌≡◌, ◌+◌, ℕ, ◌<◌, false, get_or}
use Rattle.sby_bits.proofs.parts.copy_down.Given as goal

abbrev pub invariant-loop-i : goal.invariant-loop-i
invariant-loop-i l = (k : ℕ) → k < l.i → get_or l.y k false ≡ get_or l.a (k + l.places) l.fill
