use Rattle.cnf_form.proofs.Determined.{no_fault, fault_one}
use Rattle.cnf_form.proofs.reader.dimacs_faults_are_decided.Goals as goal

pub returns-clause-formula : goal.returns-clause-formula
returns-clause-formula c = no_fault

pub returns-clause-one : goal.returns-clause-one
returns-clause-one c = fault_one
