use Rattle.std.proofs.Common.{◌≡◌}
use Rattle.cost_tests.proofs.deletions.of_copies.Given as goal

abbrev pub invariant-loop-time : goal.invariant-loop-time
invariant-loop-time l = l.formula.vars ≡ l.vars
