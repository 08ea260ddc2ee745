use Rattle.std.proofs.Common.{◌≡◌}
use Rattle.child_edge.proofs.child.RealHold.has_ended.Given as goal

abbrev pub invariant-loop : goal.invariant-loop
invariant-loop g l =
    (l.self.is_killed ≡ l.fn.self.is_killed) × (l.self.is_reaped ≡ l.fn.self.is_reaped) × (l.self.exit ≡ l.fn.self.exit)
    × (l.self.faults ≡ l.fn.self.faults)
