use Rattle.std.proofs.Common.{◌≡◌, length}
use Rattle.net_pair.proofs.Numbering.{IsTableTo}
use Rattle.net_pair.proofs.numbers.table_of.Given as goal

abbrev pub invariant-loop-state : goal.invariant-loop-state
invariant-loop-state l = record {
  size : length l.table.items ≡ l.size;
  table : IsTableTo l.held l.state l.table.items;
}
