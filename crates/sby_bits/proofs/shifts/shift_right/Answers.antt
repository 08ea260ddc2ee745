use Rattle.std.proofs.Common.{◌∙◌, ◌-◌, ◌^◌, length, arith}
use Rattle.sby_bits.specs.Rows.{num}
use Rattle.sby_bits.proofs.Moves.{down_saturated}
use Rattle.sby_bits.proofs.shifts.shift_right.Goals as goal

pub returns : goal.returns
returns c =
    c.copy_down.ensures ∙ down_saturated c.args.a.now c.args.fill (length c.args.y.now) (num c.args.by.now) (2 ^ 64 - 1) c.places.result (omega arith) c.places.ensures
