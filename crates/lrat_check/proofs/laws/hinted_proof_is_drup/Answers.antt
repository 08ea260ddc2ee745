use Rattle.lrat_check.proofs.Admitting.{Proof-drup, Proof-refutes}
use Rattle.lrat_check.proofs.laws.hinted_proof_is_drup.Goals as goal

pub returns-clause-lines : goal.returns-clause-lines
returns-clause-lines c = Proof-drup

pub returns-clause-refutes : goal.returns-clause-refutes
returns-clause-refutes c = Proof-refutes
