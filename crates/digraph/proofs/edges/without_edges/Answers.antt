use Rattle.std.proofs.Common.{length, ap, arith}
use Rattle.digraph.specs.Graph.{Graph}
use Rattle.digraph.proofs.Lists.{length-push}
use Rattle.digraph.proofs.Growing.{no-edge-push}
use Rattle.digraph.proofs.edges.without_edges.Goals as goal

pub loop-i-preserved : goal.loop-i-preserved
loop-i-preserved c = record {
  nodes = omega (arith, ap (λ (g : Graph). length g) c.in_ok-push.ensures.items, length-push c.loop-i.graph.items c.new.result, c.loop-i.invariant.nodes);
  edges = rw c.in_ok-push.ensures.items (no-edge-push c.loop-i.graph.items c.new.result c.new.ensures.items c.loop-i.invariant.edges);
}
