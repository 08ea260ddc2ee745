use Rattle.cnf_form.proofs.Removal.{Deletes-closure}
use Rattle.cnf_form.proofs.laws.deletion_keeps_closure.Goals as goal

pub returns : goal.returns
returns c = Deletes-closure
