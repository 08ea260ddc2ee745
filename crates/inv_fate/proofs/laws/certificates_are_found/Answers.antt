use Rattle.inv_fate.proofs.Sounding.{is_found}
use Rattle.inv_fate.proofs.laws.certificates_are_found.Goals as goal

pub returns : goal.returns
returns c p I cert = is_found p I cert
