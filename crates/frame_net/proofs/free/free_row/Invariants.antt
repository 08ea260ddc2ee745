use Rattle.frame_net.specs.Making.{IsFreeRow}
use Rattle.frame_net.proofs.free.free_row.Given as goal

abbrev pub invariant-loop : goal.invariant-loop
invariant-loop l = IsFreeRow l.fn.gates l.gates l.counter l.row.items
