use Rattle.net_unroll.proofs.Tightening.{propagates_law}
use Rattle.net_unroll.proofs.laws.free_variables_fix_all.Goals as goal

pub returns : goal.returns
returns c n a k net few = propagates_law n a k net few
