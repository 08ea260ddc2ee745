use Rattle.std.proofs.Common.{◌≡◌, true}
use Rattle.design_core.specs.Asked.{output_of}
use Rattle.design_core.specs.Table.{role_of}
use Rattle.design_graph.specs.Edges.{Marks, IsPlaceIn}
use Rattle.design_graph.proofs.MarkSets.{Before}
use Rattle.design_states.specs.Bits.{is_given}
use Rattle.design_states.proofs.input_bits.mark_cells.Given as goal

abbrev pub invariant-loop-place : goal.invariant-loop-place
invariant-loop-place l = Marks l.fn.marks (Before l.design.cells (λ k c p. (is_given (role_of c.kind) ≡ true) × IsPlaceIn l.design (output_of c) p) l.place) l.marks
