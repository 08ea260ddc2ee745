use Rattle.std.proofs.Common.{◌<◌, List, length, map, arith}
use Rattle.std.proofs.lemmas.List.{map-append}
use Rattle.model_core.specs.Shape.{NodeOf}
use Rattle.model_core.proofs.Lists.{at_place}
use Rattle.model_cone.specs.Slice.{kept_by, sliced_node}
use Rattle.model_cone.proofs.Growing.{nodes-grow}
use Rattle.model_cone.proofs.slice.push_nodes.Goals as goal

pub loop-node-preserved : goal.loop-node-preserved
loop-node-preserved c =
    let m = c.args.model.now in
    let f = sliced_node (kept_by c.args.marks.now) m.zero in
    let l : c.loop-node.node < length m.nodes = omega arith in
    let n = at_place m.nodes c.loop-node.node l in
    nodes-grow (λ (ns : List NodeOf). map f ns) (λ ys zs. map-append f ys zs) m.nodes c.loop-node.node n.0 n.1 _ _ _ c.loop-node.invariant (c.in_ok-push_node.ensures n.0 n.1)
