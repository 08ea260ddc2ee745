use Rattle.std.proofs.Common.{◌≡◌}
use Rattle.edge_tests.proofs.tests.pools.ask.Given as goal

abbrev pub invariant-loop : goal.invariant-loop
invariant-loop l = (l.seat.id ≡ l.pool.id) × (l.seat.view.held ≡ 0)
