use Rattle.sby_words.proofs.AskedLemmas.{no_tasks}
use Rattle.sby_words.proofs.request.tasks_asked.Goals as goal

pub returns-in_default : goal.returns-in_default
returns-in_default c = no_tasks _ _ _ c.in_default.ensures
