use Rattle.std.proofs.Common.{◌≡◌, ℕ, length}
use Rattle.digraph.specs.Graph.{HasEdge}
use Rattle.digraph.proofs.edges.without_edges.Given as goal

abbrev pub invariant-loop-i : goal.invariant-loop-i
invariant-loop-i l = record {
  nodes : length l.graph.items ≡ l._i;
  edges : (a b : ℕ) → HasEdge l.graph.items a b → ⊥;
}
