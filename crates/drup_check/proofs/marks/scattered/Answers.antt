use Rattle.std.proofs.Common.{refl}
use Rattle.drup_check.specs.Marks.{scattered}
use Rattle.drup_check.proofs.marks.scattered.Goals as goal

pub returns : goal.returns
unfolding scattered
returns c = refl
