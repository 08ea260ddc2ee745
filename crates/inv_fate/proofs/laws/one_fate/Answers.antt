use Rattle.inv_fate.proofs.Fates.{comes_once}
use Rattle.inv_fate.proofs.laws.one_fate.Goals as goal

pub returns : goal.returns
returns c p ss x y h k = comes_once p ss x y h k
