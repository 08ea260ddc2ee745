use Rattle.std.proofs.Common.{◌<◌, get_or, length, arith}
use Rattle.std.proofs.lemmas.Option.{slice_get-get_or}
use Rattle.btor_emit.proofs.Aliasing.{aliased_all, aliased_more, aliased_none}
use Rattle.btor_emit.proofs.table.alias.Goals as goal

pub loop-bit-init : goal.loop-bit-init
loop-bit-init c = aliased_none c.args.table.now c.args.places.now c.args.others.now

pub loop-bit-preserved : goal.loop-bit-preserved
loop-bit-preserved c =
    let ps = c.args.places.now in
    let os = c.args.others.now in
    let i = c.loop-bit.bit in
    let l : i < length ps = omega arith in
    let lo : i < length os = (let s = c.requires.same in omega arith) in
    let x : get_or ps i 0 < length c.loop-bit.table = (let b = c.requires.inside i 0 l in let s = c.loop-bit.invariant.size in omega arith) in
    let y : get_or os i 0 < length c.loop-bit.table = (let b = c.requires.others i 0 lo in let s = c.loop-bit.invariant.size in omega arith) in
    aliased_more c.args.table.now c.loop-bit.table _ ps os i (get_or ps i 0) (get_or os i 0) l c.requires.apart (slice_get-get_or ps i 0 l) (slice_get-get_or os i 0 lo) x y c.stand.ensures c.loop-bit.invariant

pub returns : goal.returns
returns c = aliased_all c.args.table.now c.loop-bit.table c.args.places.now c.args.others.now c.loop-bit.bit (let t = c.loop-bit-test.false in let b = c.loop-bit.auto.bit-end in omega arith) c.loop-bit.invariant
