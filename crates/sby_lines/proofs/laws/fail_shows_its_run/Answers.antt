use Rattle.sby_lines.proofs.ShowLemmas.{fail_shows}
use Rattle.sby_lines.proofs.laws.fail_shows_its_run.Goals as goal

pub returns : goal.returns
returns c = λ request came lines are apart is has. fail_shows request came lines are apart is has
