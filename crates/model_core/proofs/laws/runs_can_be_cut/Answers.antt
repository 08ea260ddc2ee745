use Rattle.model_core.proofs.Runs.{run_cut}
use Rattle.model_core.proofs.laws.runs_can_be_cut.Goals as goal

pub returns : goal.returns
returns c m n k cs some l r = run_cut m n k cs some l r
