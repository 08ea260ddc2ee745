use Rattle.std.proofs.Common.{◌≡◌}
use Rattle.child_edge.proofs.child.RealPipePipe.read.Given as goal

abbrev pub invariant-loop : goal.invariant-loop
invariant-loop g l = l.self.faults ≡ l.fn.self.faults
