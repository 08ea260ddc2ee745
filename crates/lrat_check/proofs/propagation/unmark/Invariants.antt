use Rattle.lrat_check.proofs.Trail.{Unmarking}
use Rattle.lrat_check.proofs.propagation.unmark.Given as goal

abbrev pub invariant-loop-l : goal.invariant-loop-l
invariant-loop-l l = Unmarking l.marks l.trail l.l-index
