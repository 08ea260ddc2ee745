use Rattle.net_jobs.proofs.Telling.{nothing_law}
use Rattle.net_jobs.proofs.laws.jobs_ask_nothing.Goals as goal

pub returns : goal.returns
returns c m n job span of none = nothing_law m n job span of none
