use Rattle.net_jobs.proofs.Telling.{made_so, solvable_law}
use Rattle.net_jobs.proofs.laws.jobs_tell_what_can_be_solved.Goals as goal

pub returns : goal.returns
returns c m n job span is served of whole known few = solvable_law m n is served of job span few (made_so m job span known)
