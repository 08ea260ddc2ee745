use Rattle.std.proofs.Common.{◌≡◌, ◌<◌, ℕ, length, subst, arith}
use Rattle.model_core.proofs.Lists.{at_place}
use Rattle.model_cone.specs.Marking.{AreGiversTo}
use Rattle.model_cone.proofs.Filling.{givers-all, givers-node, givers-register}
use Rattle.model_cone.proofs.Reading.{q-below, y-below}
use Rattle.model_cone.proofs.givers.givers.Goals as goal

pub give_node-requires : goal.give_node-requires
give_node-requires c =
    let l : c.loop-i.i < length c.args.model.now.nodes = omega arith in
    let n = at_place c.args.model.now.nodes c.loop-i.i l in
    rw (c.y.ensures n.0 n.1, c.loop-i.invariant.size) (y-below c.args.model.now c.size.ensures.model c.loop-i.i n.0 n.1)

pub loop-i-preserved : goal.loop-i-preserved
loop-i-preserved c =
    let l : c.loop-i.i < length c.args.model.now.nodes = omega arith in
    let n = at_place c.args.model.now.nodes c.loop-i.i l in
    givers-node c.args.model.now c.size.ensures.model c.loop-i.i 0 c.loop-i.givers.items _ c.loop-i.invariant n.0 n.1 (rw (c.y.ensures n.0 n.1) at c.give_node.ensures)

pub give_bits-requires : goal.give_bits-requires
give_bits-requires c =
    let l : c.loop-i-2.i < length c.args.model.now.registers = omega arith in
    let r = at_place c.args.model.now.registers c.loop-i-2.i l in
    rw (c.q.ensures r.0 r.1, c.loop-i-2.invariant.size) (q-below c.args.model.now c.size.ensures.model c.loop-i-2.i r.0 r.1)

pub loop-i-2-preserved : goal.loop-i-2-preserved
loop-i-2-preserved c =
    let l : c.loop-i-2.i < length c.args.model.now.registers = omega arith in
    let r = at_place c.args.model.now.registers c.loop-i-2.i l in
    givers-register c.args.model.now c.size.ensures.model (length c.args.model.now.nodes) c.loop-i-2.i c.loop-i-2.givers.items _ c.loop-i-2.invariant r.0 r.1 (rw (c.q.ensures r.0 r.1) at c.give_bits.ensures)

pub returns : goal.returns
returns c =
    let e : c.loop-i-2.i ≡ length c.args.model.now.registers = omega arith in
    givers-all c.args.model.now c.loop-i-2.givers.items (subst (λ (k : ℕ). AreGiversTo c.args.model.now (length c.args.model.now.nodes) k c.loop-i-2.givers.items) e c.loop-i-2.invariant)
