use Rattle.std.proofs.Common.{◌≡◌}
use Rattle.cost_tests.proofs.deletions.of_pairs.Given as goal

abbrev pub invariant-loop-var : goal.invariant-loop-var
invariant-loop-var l = l.formula.vars ≡ l.vars
