use Rattle.bit_net.proofs.Needing.{in_levels, levels_in}
use Rattle.bit_net.proofs.laws.levels_are_parts.Goals as goal

pub returns : goal.returns
returns c n now before many v lo hi = (in_levels n now before many v, levels_in n now before many v lo hi)
