use Rattle.std.proofs.Common.{take}
use Rattle.unit_propagation.proofs.Scanning.{Scanned}
use Rattle.unit_propagation.proofs.scan.scan_clause.Given as goal

abbrev pub invariant-loop-l : goal.invariant-loop-l
invariant-loop-l l = Scanned l.trail.lits (take l.l-index l.clause) l.open
