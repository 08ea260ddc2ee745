use Rattle.inv_fate.proofs.Sounding.{is_invariant}
use Rattle.inv_fate.proofs.laws.certificates_are_sound.Goals as goal

pub returns : goal.returns
returns c p I cert = is_invariant p I cert
