use Rattle.net_pair.proofs.Seeing.{pair_is}
use Rattle.net_pair.proofs.laws.pairs_are_of_models.Goals as goal

pub returns : goal.returns
returns c = λ m n places bits is net of have few. pair_is m n is net of places bits have few
