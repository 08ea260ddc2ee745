use Rattle.std.proofs.Common.{◌∙◌, ◌^◌, arith, length}
use Rattle.std.proofs.lemmas.List.{length-take-le}
use Rattle.sby_bits.specs.Rows.{num, value}
use Rattle.cell_rows.proofs.Cuts.{times_of}
use Rattle.cell_rows.proofs.shifts.shift_left.Goals as goal

pub returns : goal.returns
returns c = c.shift_left.ensures ∙ times_of (length c.args.y.now) _ (2 ^ num c.args.by.now) (value c.args.signed c.args.a.now) c.extend.new.y (length-take-le (length c.args.y.now) _ (let h = c.requires in omega arith)) c.extend.ensures
