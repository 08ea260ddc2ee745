use Rattle.bit_net.proofs.Needing.{needs}
use Rattle.bit_net.proofs.laws.levels_are_needs.Goals as goal

pub returns : goal.returns
returns c = needs
