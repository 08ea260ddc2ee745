use Rattle.std.proofs.Common.{arith}
use Rattle.net_answer.proofs.sink.FramedSinkSink.write.Goals as goal

pub returns-clause-some : goal.returns-clause-some
returns-clause-some g c none low = absurd (let s = c.gather.ensures.some low in omega arith)
