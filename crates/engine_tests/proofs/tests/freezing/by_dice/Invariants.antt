use Rattle.std.proofs.Common.{◌≡◌}
use Rattle.engine_tests.proofs.tests.freezing.by_dice.Given as goal

abbrev pub invariant-loop : goal.invariant-loop
invariant-loop l = record { vars : l.formula.vars ≡ 80 }
