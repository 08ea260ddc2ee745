use Rattle.net_unroll.proofs.Bounding.{bounded}
use Rattle.net_unroll.proofs.laws.what_is_made_is_bounded.Goals as goal

pub returns : goal.returns
returns x = bounded
