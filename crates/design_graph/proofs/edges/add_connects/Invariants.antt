use Rattle.digraph.specs.Graph.{Extends}
use Rattle.design_graph.proofs.EdgeSteps.{SidesUpto}
use Rattle.design_graph.proofs.edges.add_connects.Given as goal

abbrev pub invariant-loop-place : goal.invariant-loop-place
invariant-loop-place l = Extends l.fn.graph (SidesUpto l.design l.up l.design.connects l.place) l.graph
