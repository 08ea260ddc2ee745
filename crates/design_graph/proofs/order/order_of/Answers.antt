use Rattle.design_graph.proofs.order.order_of.Goals as goal
use Rattle.design_graph.proofs.Ordering.{IsOrder-built}

pub returns : goal.returns
returns c =
    let s = c.requires.sorted in
    let e = rw (c.deref.ensures.value, c.deref-2.ensures.value) at c.in_ok-order.ensures in
    IsOrder-built c.args.design.now c.requires.shape c.requires.once c.requires.cells c.requires.bits s.0 s.1 c.args.sorted.now.order.items c.args.sorted.now.cyclic.items c.args.sorted.now.leaders.items s.2
    c.in_ok-table.table.items c.in_ok-table.ensures c.in_ok-order.order.items e
