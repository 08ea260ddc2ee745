use Rattle.cert_judge.proofs.FileSpelling.{spelt_fates}
use Rattle.cert_judge.proofs.laws.spelt_files_have_the_same_fate.Goals as goal

pub returns : goal.returns
returns c = spelt_fates
