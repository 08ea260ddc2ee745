use Rattle.digraph.specs.Graph.{Extends}
use Rattle.design_graph.proofs.EdgeSteps.{PortsUpto}
use Rattle.design_graph.proofs.edges.add_ports.Given as goal

abbrev pub invariant-loop-place : goal.invariant-loop-place
invariant-loop-place l = Extends l.fn.graph (PortsUpto l.design l.cell l.node l.place) l.graph
