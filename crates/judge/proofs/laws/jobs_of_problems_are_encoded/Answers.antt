use Rattle.judge.proofs.Encodes.{encodes}
use Rattle.judge.proofs.laws.jobs_of_problems_are_encoded.Goals as goal

pub returns : goal.returns
returns c p job e is of = encodes p is job e of
