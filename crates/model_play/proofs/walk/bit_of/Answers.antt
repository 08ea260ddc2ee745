use Rattle.std.proofs.Common.{sym, ◌∙◌, ap, length}
use Rattle.model_core.proofs.Lists.{at_place}
use Rattle.model_play.proofs.Models.{a_below, b_below, s_below, widths}
use Rattle.model_play.proofs.walk.bit_of.Goals as goal

pub node_bit-requires-clause-a : goal.node_bit-requires-clause-a
node_bit-requires-clause-a c =
    let n = at_place c.args.model.now.nodes c.args.node c.requires.node in
    a_below c.args.model.now c.requires.model c.args.node n.0 n.1 _ _ c.requires.table (c.a.ensures n.0 n.1)

pub node_bit-requires-clause-b : goal.node_bit-requires-clause-b
node_bit-requires-clause-b c =
    let n = at_place c.args.model.now.nodes c.args.node c.requires.node in
    b_below c.args.model.now c.requires.model c.args.node n.0 n.1 _ _ c.requires.table (c.b.ensures n.0 n.1)

pub node_bit-requires-clause-s : goal.node_bit-requires-clause-s
node_bit-requires-clause-s c =
    let n = at_place c.args.model.now.nodes c.args.node c.requires.node in
    s_below c.args.model.now c.requires.model c.args.node n.0 n.1 _ _ c.requires.table (c.s.ensures n.0 n.1)

pub node_bit-requires-clause-widths : goal.node_bit-requires-clause-widths
node_bit-requires-clause-widths c =
    let n = at_place c.args.model.now.nodes c.args.node c.requires.node in
    widths c.args.model.now c.requires.model c.args.node n.0 _ _ _ _ _ n.1 (c.op.ensures n.0 n.1) (ap length (c.a.ensures n.0 n.1)) (ap length (c.b.ensures n.0 n.1)) (ap length (c.s.ensures n.0 n.1))
    (sym c.if-y-eq1.true ∙ ap length (c.y.ensures n.0 n.1))
