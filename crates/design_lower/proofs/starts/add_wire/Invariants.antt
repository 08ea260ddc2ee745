use Rattle.digraph.specs.Graph.{Extends}
use Rattle.design_lower.proofs.Ending.{InitsUpto}
use Rattle.design_lower.proofs.starts.add_wire.Given as goal

abbrev pub invariant-loop-place : goal.invariant-loop-place
invariant-loop-place l = Extends l.fn.graph (InitsUpto l.first l.inits l.digit l.root l.place) l.graph
