use Rattle.lrat_check.proofs.Admitting.{Hinted-admitted}
use Rattle.lrat_check.proofs.laws.hinted_is_admitted.Goals as goal

pub returns : goal.returns
returns c = Hinted-admitted
