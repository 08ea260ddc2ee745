use Rattle.judge.proofs.Streams.{one_whole}
use Rattle.judge.proofs.laws.one_fate.Goals as goal

pub returns : goal.returns
returns c = λ p job kind file stream most x y h a b. one_whole p h job kind file stream most x y a b
