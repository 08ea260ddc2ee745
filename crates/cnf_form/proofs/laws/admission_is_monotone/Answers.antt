use Rattle.cnf_form.proofs.SameSets.{Admitted-within}
use Rattle.cnf_form.proofs.laws.admission_is_monotone.Goals as goal

pub returns : goal.returns
returns c = Admitted-within
