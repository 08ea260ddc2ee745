use Rattle.std.proofs.Common.{◌≡◌, length, take}
use Rattle.net_unroll.specs.Making.{moved}
use Rattle.net_unroll.proofs.making.write.Given as goal

abbrev pub invariant-loop-place : goal.invariant-loop-place
invariant-loop-place l = record {
  size : length l.table.items ≡ length l.fn.table.items;
  table : l.table.items ≡ moved l.fn.table.items (take l.place l.moves) l.fn.table.items;
}
