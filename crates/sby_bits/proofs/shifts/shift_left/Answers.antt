use Rattle.std.proofs.Common.{◌∙◌, ◌-◌, ◌^◌, length, arith}
use Rattle.sby_bits.specs.Rows.{num}
use Rattle.sby_bits.proofs.Moves.{up_saturated}
use Rattle.sby_bits.proofs.shifts.shift_left.Goals as goal

pub returns : goal.returns
returns c =
    c.copy_up.ensures ∙ up_saturated (length c.args.y.now) (num c.args.a.now) (num c.args.by.now) (2 ^ 64 - 1) c.places.result (omega arith) c.places.ensures
