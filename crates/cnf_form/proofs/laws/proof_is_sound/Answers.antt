use Rattle.cnf_form.proofs.Removal.{Drup-ends, Drup-refutes}
use Rattle.cnf_form.proofs.laws.proof_is_sound.Goals as goal

pub returns-clause-ends : goal.returns-clause-ends
returns-clause-ends c = Drup-ends

pub returns-clause-admits : goal.returns-clause-admits
returns-clause-admits c = Drup-refutes
