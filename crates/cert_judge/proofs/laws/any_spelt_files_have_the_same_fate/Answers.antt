use Rattle.cert_judge.proofs.FileSpelling.{any_fates}
use Rattle.cert_judge.proofs.laws.any_spelt_files_have_the_same_fate.Goals as goal

pub returns : goal.returns
returns c = any_fates
