use Rattle.gate_rows.specs.Sums.{IsAtLeast}
use Rattle.gate_rows.proofs.sums.at_least.Given as goal

abbrev pub invariant-loop-i : goal.invariant-loop-i
invariant-loop-i l = IsAtLeast l.fn.gates l.gates l.a l.b l.i l.lit
