use Rattle.std.proofs.Common.{◌≡◌}
use Rattle.cost_tests.proofs.deletions.delete_times.Given as goal

abbrev pub invariant-loop-time : goal.invariant-loop-time
invariant-loop-time l = l.checker.vars ≡ l.initial.checker.vars
