use Rattle.net_jobs.proofs.Encoded.{encoded}
use Rattle.net_jobs.proofs.laws.jobs_are_encoded.Goals as goal

pub returns : goal.returns
returns c m n job span is served of few made = encoded m n job span is served of few made
