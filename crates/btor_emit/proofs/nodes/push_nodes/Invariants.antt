use Rattle.btor_emit.specs.Nodes.{AreNodes}
use Rattle.btor_emit.proofs.nodes.push_nodes.Given as goal

abbrev pub invariant-loop-node : goal.invariant-loop-node
invariant-loop-node l = AreNodes l.model l.fn.draft l.draft l.fn.table l.table l.node
