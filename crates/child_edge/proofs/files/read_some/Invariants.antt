use Rattle.std.proofs.Common.{◌≤◌, length}
use Rattle.child_edge.proofs.files.read_some.Given as goal

abbrev pub invariant-loop : goal.invariant-loop
invariant-loop g l = length l.bytes.items ≤ l.most
