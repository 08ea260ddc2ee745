use Rattle.judge.proofs.Problems.{one_formula, one_job_file}
use Rattle.judge.proofs.laws.one_file.Goals as goal

pub returns-clause-formula : goal.returns-clause-formula
returns-clause-formula c = one_formula

pub returns-clause-file : goal.returns-clause-file
returns-clause-file c = one_job_file
