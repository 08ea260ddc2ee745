use Rattle.digraph.specs.Graph.{Extends}
use Rattle.design_graph.proofs.EdgeSteps.{CellsUpto}
use Rattle.design_graph.proofs.edges.add_cells.Given as goal

abbrev pub invariant-loop-place : goal.invariant-loop-place
invariant-loop-place l = Extends l.fn.graph (CellsUpto l.design l.design.cells l.place) l.graph
