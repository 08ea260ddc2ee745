use Rattle.std.proofs.Common.{◌≡◌, length, take, drop}
use Rattle.bit_net.specs.Search.{IsSearch, Takes}
use Rattle.bit_net.proofs.search.advance.Given as goal

abbrev pub invariant-loop-place : goal.invariant-loop-place
invariant-loop-place l = record {
  size : length l.seen.items ≡ length l.fn.seen.items;
  search : IsSearch l.seen.items l.found.items;
  takes : Takes l.net (drop l.fn.begin (take l.place l.fn.found.items)) l.fn.found.items l.found.items;
}
