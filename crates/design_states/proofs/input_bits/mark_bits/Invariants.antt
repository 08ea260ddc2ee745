use Rattle.std.proofs.Common.{◌≡◌, List, Bool, All, length}
use Rattle.design_core.specs.Places.{places}
use Rattle.design_core.specs.Shape.{IsDeclared}
use Rattle.design_graph.specs.Edges.{Marks, IsPlaceIn}
use Rattle.design_signals.specs.Chunks.{bits_of}
use Rattle.design_states.proofs.input_bits.mark_bits.Given as goal

abbrev pub invariant-bits : goal.invariant-bits
invariant-bits l = record {
  declared : All (IsDeclared l.design.wires l.design.free) l.left;
  size : length l.marks ≡ places l.design;
  later : (m : List Bool) → Marks l.marks (IsPlaceIn l.design l.left) m → Marks l.fn.marks (IsPlaceIn l.design (bits_of l.bits)) m;
}

abbrev pub decreases-bits : goal.decreases-bits
decreases-bits l = length l.left
