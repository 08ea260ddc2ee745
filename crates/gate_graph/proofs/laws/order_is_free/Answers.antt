use Rattle.gate_graph.proofs.Ordering.{order_and, order_xor}
use Rattle.gate_graph.proofs.laws.order_is_free.Goals as goal

pub returns-clause-and : goal.returns-clause-and
returns-clause-and c = order_and

pub returns-clause-xor : goal.returns-clause-xor
returns-clause-xor c = order_xor
