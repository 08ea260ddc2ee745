use Rattle.std.proofs.Common.{◌^◌, ◌<◌, length, arith}
use Rattle.sby_bits.proofs.Numbers.{num-lt}
use Rattle.cell_rows.proofs.Choosing.{counted, slice_within}
use Rattle.cell_rows.proofs.choices.bmux.Goals as goal

pub number-place-requires : goal.number-place-requires
number-place-requires c = let n = counted (length c.args.y.now) (2 ^ length c.args.s.now) (length c.args.a.now) c.requires.some c.requires.a in omega arith

pub slice_number-requires : goal.slice_number-requires
slice_number-requires c =
    let e = c.number-place.ensures in
    let below : c.number-place.result < 2 ^ length c.args.s.now = (let n = num-lt c.args.s.now in omega arith) in
    slice_within (length c.args.y.now) c.number-place.result (2 ^ length c.args.s.now) (length c.args.a.now) below c.requires.a
