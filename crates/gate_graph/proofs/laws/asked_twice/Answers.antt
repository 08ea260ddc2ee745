use Rattle.gate_graph.proofs.Making.{asked_twice}
use Rattle.gate_graph.proofs.laws.asked_twice.Goals as goal

pub returns : goal.returns
returns c = asked_twice
