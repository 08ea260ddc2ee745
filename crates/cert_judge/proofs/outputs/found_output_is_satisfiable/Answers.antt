use Rattle.cert_judge.proofs.OutputFates.{output_satisfied}
use Rattle.cert_judge.proofs.outputs.found_output_is_satisfiable.Goals as goal

pub returns : goal.returns
returns c = output_satisfied
