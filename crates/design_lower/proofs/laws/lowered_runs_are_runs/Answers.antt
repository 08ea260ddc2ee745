use Rattle.design_lower.proofs.Alike.{IsWired-design}
use Rattle.design_lower.proofs.Running.{runs-from, runs-to}
use Rattle.design_lower.proofs.laws.lowered_runs_are_runs.Goals as goal

pub returns-clause-from : goal.returns-clause-from
returns-clause-from c = λ d e shape low n ws r. runs-from low.count d e (IsWired-design d shape) low.steps n ws r

pub returns-clause-to : goal.returns-clause-to
returns-clause-to c = λ d e shape low n vs r. runs-to low.count d e (IsWired-design d shape) low.steps n vs r
