use Rattle.std.proofs.Common.{◌∙◌, arith, length}
use Rattle.std.proofs.lemmas.List.{length-take-le}
use Rattle.sby_bits.specs.Rows.{value}
use Rattle.cell_rows.proofs.Cuts.{opposite_of}
use Rattle.cell_rows.proofs.arithmetic.opposite.Goals as goal

pub returns : goal.returns
returns c = c.sub.ensures ∙ opposite_of (length c.args.y.now) _ (value c.args.signed c.args.a.now) c.extend.new.y (length-take-le (length c.args.y.now) _ (let h = c.requires in omega arith)) c.extend.ensures
