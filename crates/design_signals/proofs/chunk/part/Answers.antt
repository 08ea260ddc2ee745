use Rattle.design_signals.proofs.Cutting.{bits_part}
use Rattle.design_signals.proofs.chunk.part.Goals as goal

pub returns-clause-bits : goal.returns-clause-bits
returns-clause-bits c = bits_part c.args.chunk.first c.above.result c.args.low c.args.count c.above.ensures
