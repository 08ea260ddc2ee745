use Rattle.std.proofs.Common.{length}
use Rattle.design_graph.specs.Edges.{IsTableUpto}
use Rattle.design_graph.proofs.order.put_connect.Given as goal

abbrev pub invariant-loop-bit : goal.invariant-loop-bit
invariant-loop-bit l = IsTableUpto l.design (length l.design.cells) l.place l.bit l.table
