use Rattle.cert_judge.proofs.OutputDeciding.{left_only, left_where}
use Rattle.cert_judge.proofs.outputs.proof_decides.Goals as goal

pub returns-clause-only : goal.returns-clause-only
returns-clause-only c = left_only

pub returns-clause-where_none : goal.returns-clause-where_none
returns-clause-where_none c = left_where
