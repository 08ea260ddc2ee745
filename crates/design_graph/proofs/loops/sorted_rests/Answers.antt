use Rattle.design_graph.proofs.Resting.{IsGraph-rests, IsLooped-sorted}
use Rattle.design_graph.proofs.loops.sorted_rests.Goals as goal

pub sort-requires : goal.sort-requires
sort-requires c = rw c.as_slice.ensures.value (IsGraph-rests c.args.design.now c.requires c.in_ok-graph.graph.items c.in_ok-graph.ensures)

pub returns-clause-looped : goal.returns-clause-looped
returns-clause-looped c =
    IsLooped-sorted c.args.design.now c.requires c.in_ok-graph.graph.items c.in_ok-graph.ensures c.in_ok-sorted.sorted.order.items c.in_ok-sorted.sorted.cyclic.items
    c.in_ok-sorted.sorted.leaders.items (rw c.as_slice.ensures.value at c.in_ok-sorted.ensures)

pub returns-clause-sorted : goal.returns-clause-sorted
returns-clause-sorted c = (c.in_ok-graph.graph.items, c.in_ok-graph.ensures, rw c.as_slice.ensures.value at c.in_ok-sorted.ensures)
