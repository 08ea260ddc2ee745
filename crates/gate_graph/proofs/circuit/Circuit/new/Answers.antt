use Rattle.gate_graph.proofs.Keeping.{IsCircuit-start, lit_from}
use Rattle.gate_graph.proofs.circuit.Circuit.new.Goals as goal

pub invariant_of-result : goal.invariant_of-result
invariant_of-result c =
    let e = c.new.ensures in
    rw (c.in_ok-push.ensures.ok, c.new-formula.ensures, c.new-2.ensures.items, lit_from c.new.result 1 e.var e.negated) IsCircuit-start
