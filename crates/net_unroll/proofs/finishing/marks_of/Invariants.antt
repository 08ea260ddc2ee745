use Rattle.std.proofs.Common.{◌≡◌, ◌+◌, length, drop}
use Rattle.bit_net.specs.Reaching.{spread}
use Rattle.net_unroll.specs.Finishing.{HasMarks, begins}
use Rattle.net_unroll.proofs.finishing.marks_of.Given as goal

abbrev pub invariant-loop-place : goal.invariant-loop-place
invariant-loop-place l = record {
  size : length l.marks.items ≡ l.vars + 1;
  marks : HasMarks l.marks.items (spread (drop l.place l.kept) (begins l.goals));
}
