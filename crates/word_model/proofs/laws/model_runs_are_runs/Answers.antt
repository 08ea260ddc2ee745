use Rattle.word_model.proofs.Runs.{window-to, run-to}
use Rattle.word_model.proofs.laws.model_runs_are_runs.Goals as goal

pub returns-clause-window : goal.returns-clause-window
returns-clause-window c = λ d m is n cs w. window-to d m is n cs w

pub returns-clause-run : goal.returns-clause-run
returns-clause-run c = λ d m is n cs r. run-to d m is n cs r
