use Rattle.unit_propagation.proofs.Slots.{clauses_of-contains}
use Rattle.cdcl_core.proofs.eliminate.leaves.Goals as goal

pub returns : goal.returns
returns c t =
    let e = c.in-Some.ensures in
    (c.in-Some.other.now, clauses_of-contains c.args.core.now.slots c.args.k c.in-Some.other.now e.there, c.has.ensures.0 c.if-not-has.false, c.has_all_but.ensures t)
