use Rattle.net_unroll.proofs.Tightening.{origins_law}
use Rattle.net_unroll.proofs.laws.free_variables_are_open_bits.Goals as goal

pub returns : goal.returns
returns c n a k net few = origins_law n a k net few
