use Rattle.judge.proofs.Files.{file-empty, file-solvable}
use Rattle.judge.proofs.laws.files_tell_what_jobs_ask.Goals as goal

pub returns-clause-solvable : goal.returns-clause-solvable
returns-clause-solvable c = λ p job bytes f h w is told. file-solvable p job bytes h w told f is

pub returns-clause-empty : goal.returns-clause-empty
returns-clause-empty c = λ p job bytes h w none. file-empty p job bytes h w none
