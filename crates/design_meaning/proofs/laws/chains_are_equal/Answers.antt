use Rattle.design_meaning.proofs.Chains.{chain_equal}
use Rattle.design_meaning.proofs.laws.chains_are_equal.Goals as goal

pub returns : goal.returns
returns c = chain_equal
