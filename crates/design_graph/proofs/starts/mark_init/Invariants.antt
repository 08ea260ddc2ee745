use Rattle.design_graph.specs.Edges.{Marks}
use Rattle.design_graph.proofs.MarkSets.{InitBefore}
use Rattle.design_graph.proofs.starts.mark_init.Given as goal

abbrev pub invariant-loop-bit : goal.invariant-loop-bit
invariant-loop-bit l = Marks l.fn.marks (InitBefore l.first l.leaders l.digits l.digit l.bit) l.marks
