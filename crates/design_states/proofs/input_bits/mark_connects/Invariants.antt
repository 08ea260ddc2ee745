use Rattle.design_graph.specs.Edges.{Marks, IsPlaceIn}
use Rattle.design_graph.proofs.MarkSets.{Before}
use Rattle.design_states.proofs.input_bits.mark_connects.Given as goal

abbrev pub invariant-loop-place : goal.invariant-loop-place
invariant-loop-place l = Marks l.fn.marks (Before l.design.connects (λ k j p. IsPlaceIn l.design j.left p) l.place) l.marks
