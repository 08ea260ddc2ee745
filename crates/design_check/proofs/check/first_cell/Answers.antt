use Rattle.design_check.proofs.Placing.{part-first, part-none}
use Rattle.design_check.proofs.check.first_cell.Goals as goal

pub returns-in-Some : goal.returns-in-Some
returns-in-Some c =
    let f = rw c.cells.ensures.cells at c.in-Some.ensures in
    let at = f.0 in
    ((at.0, at.1), part-first c.args.design.now c.args.kind c.requires c.in-Some.place at.0 at.1 at.2 f.1)

pub returns-in-None : goal.returns-in-None
returns-in-None c =
    let none = rw c.cells.ensures.cells at c.in-None.ensures in
    part-none c.args.design.now c.args.kind c.requires none
