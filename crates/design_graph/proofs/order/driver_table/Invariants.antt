use Rattle.std.proofs.Common.{length}
use Rattle.design_graph.specs.Edges.{IsTableUpto}
use Rattle.design_graph.proofs.order.driver_table.Given as goal

abbrev pub invariant-loop-place : goal.invariant-loop-place
invariant-loop-place l = IsTableUpto l.design (length l.design.cells) l.place 0 l.entries
