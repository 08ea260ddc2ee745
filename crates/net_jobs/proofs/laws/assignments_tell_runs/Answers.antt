use Rattle.net_jobs.specs.Jobs.{cycles_of, job_encoding}
use Rattle.net_jobs.proofs.Choosing.{choices_fit}
use Rattle.net_jobs.proofs.Telling.{decoded_law}
use Rattle.net_jobs.proofs.laws.assignments_tell_runs.Goals as goal

pub returns-clause-choices : goal.returns-clause-choices
returns-clause-choices c = λ m n job span is served of other x. choices_fit m n (cycles_of job span) (job_encoding n job span) x is of

pub returns-clause-decoded : goal.returns-clause-decoded
returns-clause-decoded c = λ m n job span is served of whole known few other x s. decoded_law m n is served of job span few other x s
