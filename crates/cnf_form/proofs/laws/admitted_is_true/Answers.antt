use Rattle.cnf_form.proofs.Rup.{Admitted-true}
use Rattle.cnf_form.proofs.laws.admitted_is_true.Goals as goal

pub returns : goal.returns
returns c F d a x sat = Admitted-true x F d a sat
