use Rattle.std.proofs.Common.{take}
use Rattle.inv_fate.specs.Fate.{IsOverBits}
use Rattle.inv_judge.proofs.claim.is_over_bits.Given as goal

abbrev pub invariant-loop-lit : goal.invariant-loop-lit
invariant-loop-lit l = IsOverBits l.pair (take l.lit-index l.lits)
