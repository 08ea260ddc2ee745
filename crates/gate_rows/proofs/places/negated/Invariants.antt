use Rattle.std.proofs.Common.{false, not, get_or}
use Rattle.gate_rows.specs.Literals.{row_of}
use Rattle.gate_rows.specs.Sums.{IsBuilt}
use Rattle.gate_rows.proofs.places.negated.Given as goal

abbrev pub invariant-loop-i : goal.invariant-loop-i
invariant-loop-i l = IsBuilt l.gates l.gates (λ x j. not (get_or (row_of x l.a) j false)) l.i l.word.items
