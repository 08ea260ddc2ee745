use Rattle.design_graph.proofs.Netting.{IsGraph-nets, IsNets-sorted}
use Rattle.design_graph.proofs.nets.net_leaders.Goals as goal

pub sort-requires : goal.sort-requires
sort-requires c = rw c.as_slice.ensures.value (IsGraph-nets c.args.design.now c.requires.shape c.in_ok-graph.graph.items c.in_ok-graph.ensures)

pub returns : goal.returns
returns c =
    IsNets-sorted c.args.design.now c.requires.shape c.in_ok-graph.graph.items c.in_ok-graph.ensures c.requires.once c.in_ok-sorted.sorted.order.items c.in_ok-sorted.sorted.cyclic.items
    c.in_ok-sorted.sorted.leaders.items (rw c.as_slice.ensures.value at c.in_ok-sorted.ensures)
