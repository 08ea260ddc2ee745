use Rattle.net_pair.proofs.Coning.{in_cone}
use Rattle.net_pair.proofs.laws.state_bits_in_the_cone_have_literals.Goals as goal

pub returns : goal.returns
returns c = λ m s asked n places bits is slice of have i place at state. in_cone m s asked n places bits is slice of have i place at state
