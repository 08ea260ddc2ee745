use Rattle.frame_net.proofs.Ordering.{ArePut}
use Rattle.frame_net.proofs.order.in_order.Given as goal

abbrev pub invariant-loop-entry : goal.invariant-loop-entry
invariant-loop-entry l = ArePut l.kept l.first l.count l.entry-index l.gates.items
