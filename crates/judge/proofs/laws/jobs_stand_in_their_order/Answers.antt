use Rattle.judge.proofs.Refusing.{in_order}
use Rattle.judge.proofs.laws.jobs_stand_in_their_order.Goals as goal

pub returns : goal.returns
returns c = in_order
