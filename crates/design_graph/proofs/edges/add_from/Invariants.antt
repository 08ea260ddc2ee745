use Rattle.std.proofs.Common.{◌≡◌, ◌<◌, All, length}
use Rattle.digraph.specs.Graph.{Graph, Extends}
use Rattle.design_core.specs.Shape.{IsDeclared}
use Rattle.design_signals.specs.Chunks.{bits_of}
use Rattle.design_graph.specs.Edges.{IsPlaceIn}
use Rattle.design_graph.proofs.edges.add_from.Given as goal

abbrev pub invariant-bits : goal.invariant-bits
invariant-bits l = record {
  declared : All (IsDeclared l.design.wires l.design.free) l.left;
  nodes : l.node < length l.graph;
  later : (k : Graph) → Extends l.graph (λ p q. (p ≡ l.node) × IsPlaceIn l.design l.left q) k
      → Extends l.fn.graph (λ p q. (p ≡ l.node) × IsPlaceIn l.design (bits_of l.bits) q) k;
}

abbrev pub decreases-bits : goal.decreases-bits
decreases-bits l = length l.left
