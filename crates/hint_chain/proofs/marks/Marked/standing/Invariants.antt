use Rattle.std.proofs.Common.{take}
use Rattle.lrat_check.specs.Marks.{is_marked}
use Rattle.lrat_check.proofs.Scan.{Scanned}
use Rattle.hint_chain.proofs.marks.Marked.standing.Given as goal

abbrev pub invariant-loop-l : goal.invariant-loop-l
invariant-loop-l l = Scanned (is_marked l.self.marks.items) (take l.l-index l.clause) l.open
