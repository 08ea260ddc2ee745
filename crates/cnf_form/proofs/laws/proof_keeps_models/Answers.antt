use Rattle.cnf_form.proofs.Removal.{Drup-sound}
use Rattle.cnf_form.proofs.laws.proof_keeps_models.Goals as goal

pub returns : goal.returns
returns c F G lines d x sat = Drup-sound x F G lines d sat
