use Rattle.net_unroll.proofs.Folding.{folded_made, made_folded}
use Rattle.net_unroll.proofs.laws.folded_gates_are_made.Goals as goal

pub returns : goal.returns
returns c v g w = (folded_made g, made_folded v g w)
