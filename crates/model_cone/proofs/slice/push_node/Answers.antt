use Rattle.model_core.specs.Served.{IsNode}
use Rattle.model_core.proofs.Lists.{all_at, at_place}
use Rattle.model_cone.proofs.Growing.{op-small}
use Rattle.model_cone.proofs.Reading.{y-below}
use Rattle.model_cone.proofs.slice.push_node.Goals as goal

pub has_kept-requires : goal.has_kept-requires
has_kept-requires c =
    let n = at_place c.args.model.now.nodes c.args.node c.requires.node in
    rw (c.y-y.ensures n.0 n.1, c.requires.marks) (y-below c.args.model.now c.requires.model c.args.node n.0 n.1)

pub push_node-requires : goal.push_node-requires
push_node-requires c =
    let n = at_place c.args.model.now.nodes c.args.node c.requires.node in
    let small = op-small n.0.op _ _ _ _ (all_at IsNode c.args.model.now.nodes c.args.node n.0 c.requires.model.nodes n.1) in
    record { a = rw (c.a.ensures n.0 n.1) small.0; b = rw (c.b.ensures n.0 n.1) small.1; s = rw (c.s.ensures n.0 n.1) small.2; y = rw (c.y-y.ensures n.0 n.1) small.3 }

pub push_zeroes-requires : goal.push_zeroes-requires
push_zeroes-requires c =
    let n = at_place c.args.model.now.nodes c.args.node c.requires.node in
    let small = op-small n.0.op _ _ _ _ (all_at IsNode c.args.model.now.nodes c.args.node n.0 c.requires.model.nodes n.1) in
    rw (c.y-y.ensures n.0 n.1) small.3
