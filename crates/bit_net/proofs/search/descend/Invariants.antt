use Rattle.std.proofs.Common.{◌≡◌, ◌-◌, length}
use Rattle.bit_net.specs.Search.{IsSearch}
use Rattle.bit_net.proofs.Searching.{IsDescent}
use Rattle.bit_net.proofs.search.descend.Given as goal

abbrev pub invariant-loop-next : goal.invariant-loop-next
invariant-loop-next l = record {
  size : length l.seen.items ≡ length l.fn.seen.items;
  search : IsSearch l.seen.items l.found.items;
  descent : IsDescent l.net l.fn.found.items l.found.items l.next;
}

abbrev pub decreases-loop-next : goal.decreases-loop-next
decreases-loop-next l = length l.seen.items - l.next
