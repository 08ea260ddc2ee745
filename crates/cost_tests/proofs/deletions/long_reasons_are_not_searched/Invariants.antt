use Rattle.cnf_form.specs.Cnf.{ClauseWithin}
use Rattle.cost_tests.proofs.deletions.long_reasons_are_not_searched.Given as goal

abbrev pub invariant-loop-time : goal.invariant-loop-time
invariant-loop-time l = ClauseWithin 1 l.long.items
