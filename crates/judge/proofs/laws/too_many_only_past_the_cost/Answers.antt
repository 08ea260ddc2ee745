use Rattle.judge.proofs.Refusing.{past_cost}
use Rattle.judge.proofs.laws.too_many_only_past_the_cost.Goals as goal

pub returns : goal.returns
returns c = past_cost
