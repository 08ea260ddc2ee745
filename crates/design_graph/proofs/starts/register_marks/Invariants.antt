use Rattle.std.proofs.Common.{replicate, false}
use Rattle.design_core.specs.Places.{places}
use Rattle.design_graph.specs.Edges.{Marks}
use Rattle.design_graph.proofs.MarkSets.{RegistersBefore}
use Rattle.design_graph.proofs.starts.register_marks.Given as goal

abbrev pub invariant-loop-place : goal.invariant-loop-place
invariant-loop-place l = Marks (replicate (places l.design) false) (RegistersBefore l.design l.design.cells l.place) l.table
