use Rattle.cnf_form.specs.Cnf.{ClauseWithin}
use Rattle.cost_tests.proofs.deletions.repeated.Given as goal

abbrev pub invariant-loop-time : goal.invariant-loop-time
invariant-loop-time l = ClauseWithin l.vars l.line.items
