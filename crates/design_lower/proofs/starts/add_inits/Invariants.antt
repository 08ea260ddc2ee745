use Rattle.digraph.specs.Graph.{Extends}
use Rattle.design_lower.proofs.Ending.{WiresUpto}
use Rattle.design_lower.proofs.starts.add_inits.Given as goal

abbrev pub invariant-loop-wire : goal.invariant-loop-wire
invariant-loop-wire l = Extends l.fn.graph (WiresUpto l.design l.digit l.root l.wire) l.graph
