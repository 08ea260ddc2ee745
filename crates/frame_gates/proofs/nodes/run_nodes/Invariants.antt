use Rattle.std.proofs.Common.{take}
use Rattle.std.specs.List.{sum_by}
use Rattle.gate_rows.specs.Literals.{Builds}
use Rattle.frame_gates.specs.Costs.{node_gates}
use Rattle.frame_gates.specs.Rows.{AreGiven}
use Rattle.frame_gates.proofs.nodes.run_nodes.Given as goal

abbrev pub invariant-loop-node : goal.invariant-loop-node
invariant-loop-node l = record {
  given : AreGiven l.model l.node l.gates l.fn.table l.table;
  builds : Builds l.fn.gates l.gates (sum_by node_gates (take l.node l.model.nodes));
}
