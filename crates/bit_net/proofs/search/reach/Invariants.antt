use Rattle.std.proofs.Common.{◌≡◌, ◌≤◌, ◌+◌, ◌-◌, length}
use Rattle.bit_net.specs.Net.{vars}
use Rattle.bit_net.specs.Search.{IsClosedTo, IsSearch}
use Rattle.bit_net.proofs.Leveling.{ArePrefixes}
use Rattle.bit_net.proofs.search.reach.Given as goal

abbrev pub invariant-levels : goal.invariant-levels
invariant-levels l = record {
  size : length l.seen.items ≡ vars l.net + 1;
  search : IsSearch l.seen.items l.found.items;
  most : length l.ends.items ≤ l.count + 1;
  inside : l.end ≤ length l.found.items;
  closed : IsClosedTo l.net l.found.items l.end;
  prefixes : ArePrefixes l.net l.now l.before l.found.items l.ends.items l.end;
}

abbrev pub decreases-levels : goal.decreases-levels
decreases-levels l = l.count + 1 - length l.ends.items
