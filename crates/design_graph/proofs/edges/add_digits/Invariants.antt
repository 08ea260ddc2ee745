use Rattle.digraph.specs.Graph.{Extends}
use Rattle.design_graph.proofs.EdgeSteps.{DigitsUpto}
use Rattle.design_graph.proofs.edges.add_digits.Given as goal

abbrev pub invariant-loop-place : goal.invariant-loop-place
invariant-loop-place l = Extends l.fn.graph (DigitsUpto l.design l.constant l.node l.place) l.graph
