use Rattle.model_core.proofs.Runs.{runs_same}
use Rattle.model_core.proofs.laws.one_run.Goals as goal

pub returns : goal.returns
returns c m is chosen cs es p q t l = runs_same m is chosen cs es p q t l
