use Rattle.std.proofs.Common.{◌≡◌, ◌++◌, drop}
use Rattle.task_net.specs.Spreading.{spread_bits}
use Rattle.task_net.proofs.spreading.spread_row.Given as goal

abbrev pub invariant-loop-k : goal.invariant-loop-k
invariant-loop-k l = l.bits.items ++ spread_bits (drop l.k l.kept) (drop l.next l.row) ≡ l.fn.bits.items ++ spread_bits l.kept l.row
