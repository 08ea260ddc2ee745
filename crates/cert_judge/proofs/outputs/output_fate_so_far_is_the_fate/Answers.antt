use Rattle.cert_judge.proofs.OutputFates.{output_at_end}
use Rattle.cert_judge.proofs.outputs.output_fate_so_far_is_the_fate.Goals as goal

pub returns : goal.returns
returns c = output_at_end
