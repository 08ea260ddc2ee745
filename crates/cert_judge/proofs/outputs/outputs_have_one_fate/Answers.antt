use Rattle.std.proofs.Common.{false}
use Rattle.cert_judge.proofs.KindFates.{one_so_far}
use Rattle.cert_judge.specs.declared.stream.StreamKind.TheVariants.{Drup}
use Rattle.cert_judge.specs.Output.{stream_of}
use Rattle.cert_judge.proofs.OutputFates.{output_fate}
use Rattle.cert_judge.proofs.outputs.outputs_have_one_fate.Goals as goal

pub returns-clause-whole : goal.returns-clause-whole
returns-clause-whole c = output_fate

pub returns-clause-so_far : goal.returns-clause-so_far
returns-clause-so_far c = λ job bytes most x y h k. one_so_far Drup job (stream_of false bytes) most x y h k
