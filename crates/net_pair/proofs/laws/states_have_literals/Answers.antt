use Rattle.net_pair.proofs.Seeing.{literals}
use Rattle.net_pair.proofs.laws.states_have_literals.Goals as goal

pub returns : goal.returns
returns c = λ m n places bits is of have i place at. literals m n is of places bits have i place at
