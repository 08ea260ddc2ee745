use Rattle.std.proofs.Common.{◌∙◌, arith, length}
use Rattle.std.proofs.lemmas.List.{length-take-le}
use Rattle.sby_bits.specs.Rows.{value}
use Rattle.cell_rows.proofs.Cuts.{sum_of}
use Rattle.cell_rows.proofs.arithmetic.sum.Goals as goal

pub returns : goal.returns
returns c = c.add.ensures ∙ sum_of (length c.args.y.now) _ _ (value c.args.signed c.args.a.now) (value c.args.signed c.args.b.now) c.extend.new.y c.extend-2.new.y
    (length-take-le (length c.args.y.now) _ (let h = c.requires in omega arith)) (length-take-le (length c.args.y.now) _ (let h = c.requires in omega arith)) c.extend.ensures c.extend-2.ensures
