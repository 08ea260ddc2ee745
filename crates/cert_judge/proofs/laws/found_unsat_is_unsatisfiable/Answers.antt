use Rattle.cert_judge.proofs.KindFates.{found_refuted}
use Rattle.cert_judge.proofs.laws.found_unsat_is_unsatisfiable.Goals as goal

pub returns : goal.returns
returns c = found_refuted
