use Rattle.judge.proofs.Induction.{nothing-breaks}
use Rattle.judge.proofs.laws.base_and_step_show_that_nothing_breaks.Goals as goal

pub returns : goal.returns
returns c = λ d n lt base step. nothing-breaks d n base step
