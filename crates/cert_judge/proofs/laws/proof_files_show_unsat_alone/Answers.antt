use Rattle.cert_judge.proofs.KindFates.{binary_never_satisfied, proof_never_satisfied}
use Rattle.cert_judge.proofs.laws.proof_files_show_unsat_alone.Goals as goal

pub returns-clause-text : goal.returns-clause-text
returns-clause-text c = proof_never_satisfied

pub returns-clause-binary : goal.returns-clause-binary
returns-clause-binary c = binary_never_satisfied
