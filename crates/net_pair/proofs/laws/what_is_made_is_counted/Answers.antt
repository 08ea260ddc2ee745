use Rattle.net_pair.proofs.Fixing.{counted}
use Rattle.net_pair.proofs.laws.what_is_made_is_counted.Goals as goal

pub returns : goal.returns
returns c = λ n bits. counted n bits
