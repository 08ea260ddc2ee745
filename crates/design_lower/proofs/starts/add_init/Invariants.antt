use Rattle.digraph.specs.Graph.{Extends}
use Rattle.design_lower.proofs.Ending.{InitUpto}
use Rattle.design_lower.proofs.starts.add_init.Given as goal

abbrev pub invariant-loop-bit : goal.invariant-loop-bit
invariant-loop-bit l = Extends l.fn.graph (InitUpto l.first l.digits l.digit l.root l.bit) l.graph
