use Rattle.design_graph.proofs.Starting.{StartsBefore}
use Rattle.design_graph.proofs.starts.starts_of.Given as goal

abbrev pub invariant-loop-place : goal.invariant-loop-place
invariant-loop-place l = StartsBefore l.design l.starts.items l.place
