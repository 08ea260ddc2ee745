use Rattle.std.proofs.Common.{◌≡◌, length, map, take}
use Rattle.bit_net.specs.Search.{IsSearch, Visits}
use Rattle.bit_net.proofs.search.visit_all.Given as goal

abbrev pub invariant-loop-lit : goal.invariant-loop-lit
invariant-loop-lit l = record {
  size : length l.seen.items ≡ length l.fn.seen.items;
  search : IsSearch l.seen.items l.found.items;
  visits : Visits (map (λ m. m.var) (take l.lit-index l.lits)) l.fn.found.items l.found.items;
}
