use Rattle.lrat_check.proofs.Trail.{Assuming}
use Rattle.lrat_check.proofs.propagation.assume.Given as goal

abbrev pub invariant-loop-l : goal.invariant-loop-l
invariant-loop-l l = Assuming l.clause l.l-index l.marks l.trail.items
