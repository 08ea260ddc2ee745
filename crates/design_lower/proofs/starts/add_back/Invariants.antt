use Rattle.std.proofs.Common.{◌≡◌, ◌<◌}
use Rattle.digraph.specs.Graph.{Extends}
use Rattle.design_lower.proofs.starts.add_back.Given as goal

abbrev pub invariant-loop-place : goal.invariant-loop-place
invariant-loop-place l = Extends l.fn.graph (λ p q. (p < l.place) × (q ≡ l.root)) l.graph
