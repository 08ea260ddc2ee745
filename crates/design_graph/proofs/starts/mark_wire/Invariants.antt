use Rattle.design_graph.specs.Edges.{Marks}
use Rattle.design_graph.proofs.MarkSets.{InitsBefore}
use Rattle.design_graph.proofs.starts.mark_wire.Given as goal

abbrev pub invariant-loop-place : goal.invariant-loop-place
invariant-loop-place l = Marks l.fn.marks (InitsBefore l.first l.leaders l.inits l.digit l.place) l.marks
