use Rattle.cdcl_run.proofs.Promise.{broken, kept, left}
use Rattle.cdcl_run.proofs.laws.promise_is_kept.Goals as goal

pub returns-clause-answer : goal.returns-clause-answer
returns-clause-answer c = kept c.dimacs_faults_are_decided.ensures.formula

pub returns-clause-failed : goal.returns-clause-failed
returns-clause-failed c = broken c.dimacs_faults_are_decided.ensures.formula

pub returns-clause-memory : goal.returns-clause-memory
returns-clause-memory c = left c.dimacs_faults_are_decided.ensures.formula
