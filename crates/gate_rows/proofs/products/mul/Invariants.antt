use Rattle.gate_rows.specs.Sums.{IsProduct}
use Rattle.gate_rows.proofs.products.mul.Given as goal

abbrev pub invariant-loop-k : goal.invariant-loop-k
invariant-loop-k l = IsProduct l.fn.gates l.gates l.y l.a l.b l.k l.s.items l.c.items
