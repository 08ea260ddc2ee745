use Rattle.std.proofs.Common.{◌<◌, get_or, length, arith}
use Rattle.std.proofs.lemmas.List.{get_or_default}
use Rattle.btor_emit.proofs.Seating.{reseated_more, reseated_none}
use Rattle.btor_emit.proofs.table.reseat.Goals as goal

pub loop-bit-init : goal.loop-bit-init
loop-bit-init c = reseated_none c.args.table.now c.args.row

pub loop-bit-preserved : goal.loop-bit-preserved
loop-bit-preserved c =
    let ps = c.args.places.now in
    let i = c.loop-bit.bit in
    let l : i < length ps = omega arith in
    let w : get_or ps i 0 < length c.loop-bit.table = (let b = c.requires.inside i 0 l in let s = c.loop-bit.invariant.size in omega arith) in
    reseated_more ps i (get_or ps i 0) l (get_or_default ps i 0 (get_or ps i 0) l) c.args.table.now c.loop-bit.table c.move_bit.new.table c.args.row w c.loop-bit.invariant c.move_bit.ensures
