use Rattle.lrat_check.proofs.Trail.{Marks-push}
use Rattle.hint_chain.proofs.marks.Marked.push.Goals as goal

pub returns-clause-marked : goal.returns-clause-marked
returns-clause-marked c = rw (c.index.ensures, c.in_ok-push.ensures.items) (Marks-push _ _ _ c.requires.marked c.requires.places)
