use Rattle.word_model.proofs.Runs.{window-from, run-from}
use Rattle.word_model.proofs.laws.runs_are_model_runs.Goals as goal

pub returns-clause-window : goal.returns-clause-window
returns-clause-window c = λ d m shape is n vs w. window-from d m is shape n vs w

pub returns-clause-run : goal.returns-clause-run
returns-clause-run c = λ d m shape is n vs r. run-from d m is shape n vs r
