use Rattle.design_check.proofs.Placing.{clock-first, clock-none}
use Rattle.design_check.proofs.check.first_clock.Goals as goal

pub returns-in-Some : goal.returns-in-Some
returns-in-Some c =
    let f = c.in-Some.ensures in
    let at = f.0 in
    ((at.0, at.1), clock-first c.args.design.now c.in-Some.place at.0 at.1 at.2 f.1)

pub returns-in-None : goal.returns-in-None
returns-in-None c = clock-none c.args.design.now c.in-None.ensures
