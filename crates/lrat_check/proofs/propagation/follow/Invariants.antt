use Rattle.lrat_check.specs.Table.{held}
use Rattle.lrat_check.proofs.Following.{Follows}
use Rattle.lrat_check.proofs.propagation.follow.Given as goal

abbrev pub invariant-loop-id : goal.invariant-loop-id
invariant-loop-id l = Follows (held l.clauses) l.fn.trail.items l.hints l.id-index l.marks l.trail.items
