use Rattle.std.proofs.Common.{ℕ, ◌<◌, ◌^◌}
use Rattle.gate_words.proofs.shifts.stages.Given as goal

abbrev pub invariant-loop-k : goal.invariant-loop-k
invariant-loop-k l = (j : ℕ) → j < l.k → 2 ^ j < l.n
