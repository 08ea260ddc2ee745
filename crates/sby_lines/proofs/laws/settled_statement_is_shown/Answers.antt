use Rattle.sby_lines.proofs.ShowLemmas.{statement_shows}
use Rattle.sby_lines.proofs.laws.settled_statement_is_shown.Goals as goal

pub returns : goal.returns
returns c = λ request came status answers lines place answer are is collected has at. statement_shows request came status answers lines place answer are is collected has at
