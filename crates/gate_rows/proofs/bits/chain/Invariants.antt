use Rattle.gate_rows.specs.Sums.{IsChained, op_bit}
use Rattle.gate_rows.proofs.bits.chain.Given as goal

abbrev pub invariant-loop-i : goal.invariant-loop-i
invariant-loop-i l = IsChained l.fn.gates l.gates (op_bit l.op) l.fn.start l.a l.i l.lit
