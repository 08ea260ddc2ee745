use Rattle.std.proofs.Common.{◌++◌}
use Rattle.cert_judge.proofs.OutputFates.{output_at_end, output_stays}
use Rattle.cert_judge.proofs.outputs.output_fates_stay.Goals as goal

pub returns-clause-so_far : goal.returns-clause-so_far
returns-clause-so_far c = output_stays

pub returns-clause-whole : goal.returns-clause-whole
returns-clause-whole c = λ job bytes rest most x h. output_at_end job (bytes ++ rest) most x (output_stays job bytes rest most x h)
