use Rattle.cert_judge.proofs.KindFates.{found_satisfied}
use Rattle.cert_judge.proofs.laws.found_sat_is_satisfiable.Goals as goal

pub returns : goal.returns
returns c = found_satisfied
