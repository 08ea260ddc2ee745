use Rattle.std.proofs.Common.{take}
use Rattle.drup_check.proofs.Weights.{IsLeft}
use Rattle.drup_check.proofs.marks.unmark_all.Given as goal

abbrev pub invariant-loop-l : goal.invariant-loop-l
invariant-loop-l l = IsLeft l.marks l.clause (take l.l-index l.clause)
