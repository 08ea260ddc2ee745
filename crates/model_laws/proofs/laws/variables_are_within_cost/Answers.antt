use Rattle.model_laws.proofs.Costs.{variables-within}
use Rattle.model_laws.proofs.laws.variables_are_within_cost.Goals as goal

pub returns : goal.returns
returns c = λ d order m shape flat ordered built. variables-within d shape flat order ordered m built
