use Rattle.std.proofs.Common.{◌∙◌, arith}
use Rattle.std.proofs.lemmas.List.{length-take-le}
use Rattle.cell_rows.proofs.Choosing.{below_of}
use Rattle.cell_rows.proofs.flags.is_below.Goals as goal

pub returns : goal.returns
returns c =
    let m = c.max-width.ensures in
    let h = c.requires in
    c.less.ensures ∙ below_of c.max-width.result c.max-width.result _ _ c.args.a.now c.args.b.now c.extend.new.y c.extend-2.new.y c.args.signed
    (length-take-le c.max-width.result _ (omega arith)) (length-take-le c.max-width.result _ (omega arith)) (omega arith) (omega arith) c.extend.ensures c.extend-2.ensures
