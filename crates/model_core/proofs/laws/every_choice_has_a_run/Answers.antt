use Rattle.model_core.proofs.Runs.{run_of, run_plays}
use Rattle.model_core.proofs.laws.every_choice_has_a_run.Goals as goal

pub returns : goal.returns
returns c m is chosen fit some = (run_of m is chosen, run_plays m is chosen fit some)
