use Rattle.std.proofs.Common.{◌≡◌, ℕ, ◌-◌, ◌<◌, ◌≤◌, false, get_or}
use Rattle.sby_bits.proofs.parts.copy_up.Given as goal

abbrev pub invariant-loop-i : goal.invariant-loop-i
invariant-loop-i l = record {
  low : (k : ℕ) → k < l.i → k < l.places → get_or l.y k false ≡ false;
  high : (k : ℕ) → k < l.i → l.places ≤ k → get_or l.y k false ≡ get_or l.a (k - l.places) false;
}
