use Rattle.design_graph.specs.Edges.{IsEmitted}
use Rattle.design_graph.proofs.order.emitted.Given as goal

abbrev pub invariant-loop-place : goal.invariant-loop-place
invariant-loop-place l = IsEmitted l.table l.nodes l.place l.order.items
