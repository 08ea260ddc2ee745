use Rattle.std.proofs.Common.{◌≡◌, length}
use Rattle.lrat_check.proofs.Trail.{Assuming}
use Rattle.hint_chain.proofs.marks.Marked.mark_negations.Given as goal

abbrev pub invariant-loop-l : goal.invariant-loop-l
invariant-loop-l l = record {
  sized : length l.self.marks.items ≡ length l.fn.self.marks.items;
  assuming : Assuming l.clause l.l-index l.self.marks.items l.self.trail.items;
}
