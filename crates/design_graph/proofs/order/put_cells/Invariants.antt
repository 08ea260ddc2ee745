use Rattle.design_graph.specs.Edges.{IsTableUpto}
use Rattle.design_graph.proofs.order.put_cells.Given as goal

abbrev pub invariant-loop-place : goal.invariant-loop-place
invariant-loop-place l = IsTableUpto l.design l.place 0 0 l.table
