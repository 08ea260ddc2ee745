use Rattle.std.proofs.Common.{◌<◌, arith, length}
use Rattle.std.proofs.lemmas.Option.{slice_get_within}
use Rattle.model_core.proofs.Lists.{at_place}
use Rattle.model_play.proofs.Models.{Driven-more, Driven-none}
use Rattle.model_play.proofs.walk.drive_all.Goals as goal

pub loop-node-init : goal.loop-node-init
loop-node-init c = Driven-none c.args.model.now c.args.table.now

pub loop-node-preserved : goal.loop-node-preserved
loop-node-preserved c =
    let l : c.loop-node.node < length c.args.model.now.nodes = let e = c.nodes-node-end.ensures in let t = c.loop-node-test.true in omega (arith, e, t) in
    let n = at_place c.args.model.now.nodes c.loop-node.node l in
    Driven-more c.args.model.now c.requires.model c.loop-node.node n.0 c.args.table.now c.loop-node.table c.drive.new.table n.1 c.loop-node.invariant (c.drive.ensures.row n.0 n.1) (c.drive.ensures.others n.0 n.1)

pub returns-clause-nodes : goal.returns-clause-nodes
returns-clause-nodes c = λ i n e.
    let l = slice_get_within c.args.model.now.nodes i n e in
    let z = c.nodes-node-end.ensures in
    let t = c.loop-node-test.false in
    c.loop-node.invariant.driven i n (omega (arith, l, z, t)) e

pub returns-clause-sources : goal.returns-clause-sources
returns-clause-sources c = c.loop-node.invariant.kept
