use Rattle.std.proofs.Common.{false, get_or}
use Rattle.gate_rows.specs.Literals.{row_of}
use Rattle.gate_rows.specs.Sums.{IsBuilt, op_bit}
use Rattle.gate_rows.proofs.bits.each.Given as goal

abbrev pub invariant-loop-i : goal.invariant-loop-i
invariant-loop-i l = IsBuilt l.fn.gates l.gates (λ x j. op_bit l.op x (get_or (row_of x l.a) j false) (get_or (row_of x l.b) j false)) l.i l.word.items
