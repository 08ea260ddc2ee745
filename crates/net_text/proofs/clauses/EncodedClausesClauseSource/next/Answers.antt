use Rattle.net_text.proofs.Giving.{next_at}
use Rattle.net_text.proofs.clauses.EncodedClausesClauseSource.next.Goals as goal

pub returns-clause-place : goal.returns-clause-place
returns-clause-place c = λ k at _.
    next_at c.args.self.now c.args.place.now c.place_after.result k (rw c.self.view_is at c.place_after.ensures.place) (rw c.self.view_is at c.place_after.ensures.left) at
