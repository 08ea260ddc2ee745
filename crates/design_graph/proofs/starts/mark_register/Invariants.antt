use Rattle.std.proofs.Common.{◌≡◌, List, Bool, All, length}
use Rattle.design_core.specs.Asked.{output_of}
use Rattle.design_core.specs.Places.{places}
use Rattle.design_core.specs.Shape.{IsDeclared}
use Rattle.design_graph.specs.Edges.{Marks, IsPlaceIn}
use Rattle.design_graph.proofs.starts.mark_register.Given as goal

abbrev pub invariant-bits : goal.invariant-bits
invariant-bits l = record {
  declared : All (IsDeclared l.design.wires l.design.free) l.left;
  size : length l.marks ≡ places l.design;
  later : (m : List Bool) → Marks l.marks (IsPlaceIn l.design l.left) m → Marks l.fn.marks (IsPlaceIn l.design (output_of l.cell)) m;
}

abbrev pub decreases-bits : goal.decreases-bits
decreases-bits l = length l.left
