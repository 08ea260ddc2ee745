use Rattle.sby_words.proofs.AskedLemmas.{no_names}
use Rattle.sby_words.proofs.request.names_asked.Goals as goal

pub returns-in_default : goal.returns-in_default
returns-in_default c = no_names _ _ _ c.in_default.ensures
