use Rattle.judge.proofs.Streams.{some_whole}
use Rattle.judge.proofs.laws.some_fate.Goals as goal

pub returns : goal.returns
returns c = λ p job kind file stream most f h dimacs serves no. some_whole p h c.some_fate.ensures job kind file stream most f dimacs serves no
