use Rattle.gate_graph.proofs.Ordering.{maj_small, maj_there, mux_small, mux_there, simple_there}
use Rattle.gate_graph.proofs.laws.operands_decide.Goals as goal

pub returns-clause-two : goal.returns-clause-two
returns-clause-two c = simple_there

pub returns-clause-mux : goal.returns-clause-mux
returns-clause-mux c = mux_there

pub returns-clause-branches : goal.returns-clause-branches
returns-clause-branches c = mux_small

pub returns-clause-maj : goal.returns-clause-maj
returns-clause-maj c = maj_there

pub returns-clause-bounds : goal.returns-clause-bounds
returns-clause-bounds c = maj_small
