use Rattle.std.proofs.Common.{◌<◌, get_or, length, arith}
use Rattle.std.proofs.lemmas.List.{get_or_default}
use Rattle.model_cone.specs.declared.givers.Giver.TheVariants.{Node}
use Rattle.model_cone.proofs.Filling.{given-more, given-none}
use Rattle.model_cone.proofs.givers.give_node.Goals as goal

pub loop-place-init : goal.loop-place-init
loop-place-init c = given-none (λ k. Node c.args.node) c.args.givers.now.items

pub loop-place-preserved : goal.loop-place-preserved
loop-place-preserved c =
    let ps = c.args.places.now in
    let i = c.loop-place.place-index in
    let l : i < length ps = c.loop-place-test.true in
    let w : get_or ps i 0 < length c.loop-place.givers.items = (let b = c.requires i 0 l in let s = c.loop-place.invariant.size in omega arith) in
    given-more ps i (get_or ps i 0) (λ k. Node c.args.node) c.args.givers.now.items c.loop-place.givers.items l (get_or_default ps i 0 (get_or ps i 0) l) w c.loop-place.invariant
