use Rattle.witness_judge.proofs.One.{one_so_far, one_whole}
use Rattle.witness_judge.proofs.laws.one_fate.Goals as goal

pub returns-clause-so_far : goal.returns-clause-so_far
returns-clause-so_far c = one_so_far

pub returns-clause-whole : goal.returns-clause-whole
returns-clause-whole c = one_whole
