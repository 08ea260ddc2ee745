use Rattle.std.proofs.Common.{take}
use Rattle.drup_check.proofs.Reasons.{Scanned}
use Rattle.drup_check.proofs.admission.is_reason.Given as goal

abbrev pub invariant-loop-l : goal.invariant-loop-l
invariant-loop-l l = Scanned l.core.trail (take l.l-index l.clause) l.implied
