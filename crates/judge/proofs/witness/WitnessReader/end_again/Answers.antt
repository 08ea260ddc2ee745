use Rattle.std.proofs.Common.{◌≡◌, ◌∙◌, Ok, ap, subst, sym}
use Rattle.judge.proofs.Reading.{again}
use Rattle.judge.specs.Reading.{Ends, ReaderOf}
use Rattle.judge.specs.Telling.{told_again}
use Rattle.judge.specs.declared.judging.Progress.{Progress}
use Rattle.judge.proofs.witness.WitnessReader.end_again.Goals as goal

pub returns-clause-again : goal.returns-clause-again
returns-clause-again c = λ bytes took.
    let told : c.in-Ok.told ≡ told_again c.args.self.now.found = c.in-Ok.ensures ∙ ap (λ (j : ReaderOf). told_again j.found) c.self.view_is in
    subst (λ (t : Progress). Ends c.args.self.now c.args.self.now bytes (Ok t)) (sym told) (again c.args.self.now bytes took.state took.answered)
