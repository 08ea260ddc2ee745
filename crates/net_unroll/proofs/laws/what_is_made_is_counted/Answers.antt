use Rattle.net_unroll.proofs.Counting.{few_made}
use Rattle.net_unroll.proofs.laws.what_is_made_is_counted.Goals as goal

pub returns : goal.returns
returns x = few_made
