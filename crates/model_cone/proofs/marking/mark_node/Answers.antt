use Rattle.std.proofs.Common.{◌⊎◌}
use Rattle.std.specs.Prelude.{Contains}
use Rattle.model_core.proofs.Lists.{at_place}
use Rattle.model_cone.proofs.Marks.{spread-then}
use Rattle.model_cone.proofs.Reading.{a-below, b-below, node-spread, s-below}
use Rattle.model_cone.proofs.marking.mark_node.Goals as goal

pub mark_all-requires : goal.mark_all-requires
mark_all-requires c =
    let n = at_place c.args.model.now.nodes c.args.node c.requires.node in
    rw (c.a.ensures n.0 n.1, c.requires.size) (a-below c.args.model.now c.requires.model c.args.node n.0 n.1)

pub mark_all-requires-2 : goal.mark_all-requires-2
mark_all-requires-2 c =
    let n = at_place c.args.model.now.nodes c.args.node c.requires.node in
    rw (c.b.ensures n.0 n.1, c.in_ok-mark_all.ensures.size, c.requires.size) (b-below c.args.model.now c.requires.model c.args.node n.0 n.1)

pub mark_all-requires-3 : goal.mark_all-requires-3
mark_all-requires-3 c =
    let n = at_place c.args.model.now.nodes c.args.node c.requires.node in
    rw (c.s.ensures n.0 n.1, c.in_ok-mark_all-2.ensures.size, c.in_ok-mark_all.ensures.size, c.requires.size) (s-below c.args.model.now c.requires.model c.args.node n.0 n.1)

pub returns : goal.returns
returns c =
    let n = at_place c.args.model.now.nodes c.args.node c.requires.node in
    node-spread c.args.model.now c.args.node n.0 n.1 c.a.result.now c.b.result.now c.s.result.now (c.a.ensures n.0 n.1) (c.b.ensures n.0 n.1) (c.s.ensures n.0 n.1) _ _ _ _
    (spread-then (λ p. Contains c.a.result.now p ⊎ Contains c.b.result.now p) (Contains c.s.result.now) _ _ _ _ _ _
    (spread-then (Contains c.a.result.now) (Contains c.b.result.now) _ _ _ _ _ _ c.in_ok-mark_all.ensures c.in_ok-mark_all-2.ensures) c.in_ok-mark_all-3.ensures)
