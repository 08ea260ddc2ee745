use Rattle.std.proofs.Common.{◌≡◌, ◌≤◌, length}
use Rattle.digraph.specs.Search.{Closing, Leading}
use Rattle.digraph.proofs.search.close.Given as goal

abbrev pub invariant-loop-search : goal.invariant-loop-search
invariant-loop-search l = record {
  closing : Closing l.on_cycle l.place l.fn.search.marks.items l.search.marks.items l.fn.search.stack.items l.search.stack.items l.fn.search.order.items l.search.order.items l.fn.search.cyclic.items l.search.cyclic.items;
  leading : Leading l.leader l.fn.search.marks.items l.search.stack.items l.fn.search.leaders.items l.search.leaders.items;
  most : l.place ≤ length l.search.stack.items;
  cursors : l.search.cursors.items ≡ l.fn.search.cursors.items;
  bounds : l.search.bounds.items ≡ l.fn.search.bounds.items;
  path : l.search.path.items ≡ l.fn.search.path.items;
}

abbrev pub decreases-loop-search : goal.decreases-loop-search
decreases-loop-search l = length l.search.stack.items
