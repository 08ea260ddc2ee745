use Rattle.std.proofs.Common.{◌≡◌, length}
use Rattle.lrat_check.proofs.Trail.{Unmarking}
use Rattle.hint_chain.proofs.marks.Marked.clear.Given as goal

abbrev pub invariant-loop-k : goal.invariant-loop-k
invariant-loop-k l = record {
  sized : length l.self.marks.items ≡ length l.fn.self.marks.items;
  trail : l.self.trail ≡ l.fn.self.trail;
  rest : Unmarking l.self.marks.items l.fn.self.trail.items l.k;
}
