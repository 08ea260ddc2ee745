use Rattle.std.proofs.Common.{◌≡◌, ◌≤◌, length}
use Rattle.std.specs.Prelude.{vec_capacity}
use Rattle.lane_tests.proofs.tests.bays_of.Given as goal

abbrev pub invariant-loop-lane : goal.invariant-loop-lane
invariant-loop-lane g l = (length l.bays.items ≡ l.lane) × (l.lanes ≤ vec_capacity l.bays)
