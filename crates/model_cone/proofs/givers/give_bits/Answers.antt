use Rattle.std.proofs.Common.{◌<◌, get_or, length, arith}
use Rattle.std.proofs.lemmas.List.{get_or_default}
use Rattle.model_cone.specs.declared.givers.Giver.TheVariants.{Bit}
use Rattle.model_cone.proofs.Filling.{given-more, given-none}
use Rattle.model_cone.proofs.givers.give_bits.Goals as goal

pub loop-bit-init : goal.loop-bit-init
loop-bit-init c = given-none (λ k. Bit c.args.register k) c.args.givers.now.items

pub loop-bit-preserved : goal.loop-bit-preserved
loop-bit-preserved c =
    let ps = c.args.places.now in
    let i = c.loop-bit.bit in
    let l : i < length ps = omega arith in
    let w : get_or ps i 0 < length c.loop-bit.givers.items = (let b = c.requires i 0 l in let s = c.loop-bit.invariant.size in omega arith) in
    given-more ps i (get_or ps i 0) (λ k. Bit c.args.register k) c.args.givers.now.items c.loop-bit.givers.items l (get_or_default ps i 0 (get_or ps i 0) l) w c.loop-bit.invariant
