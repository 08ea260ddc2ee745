use Rattle.bit_net.proofs.Needing.{needs_in}
use Rattle.bit_net.proofs.laws.two_levels_are_needs.Goals as goal

pub returns : goal.returns
returns c = needs_in
