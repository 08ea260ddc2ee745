use Rattle.judge.proofs.Streams.{one_run}
use Rattle.judge.proofs.laws.one_played_run.Goals as goal

pub returns : goal.returns
returns c = λ p job kind ended bytes most run other h a b. one_run p h job kind ended bytes most run other a b
