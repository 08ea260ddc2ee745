use Rattle.std.proofs.Common.{replicate, false}
use Rattle.design_core.specs.Places.{places}
use Rattle.design_graph.specs.Edges.{Marks}
use Rattle.design_graph.proofs.MarkSets.{WiresBefore}
use Rattle.design_graph.proofs.starts.digit_marks.Given as goal

abbrev pub invariant-loop-wire : goal.invariant-loop-wire
invariant-loop-wire l = Marks (replicate (places l.design) false) (WiresBefore l.design l.leaders l.digit l.wire) l.table
