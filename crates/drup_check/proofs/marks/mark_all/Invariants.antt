use Rattle.std.proofs.Common.{◌≡◌, take}
use Rattle.unit_propagation.specs.Marks.{Shows}
use Rattle.drup_check.specs.Marks.{weight}
use Rattle.drup_check.proofs.marks.mark_all.Given as goal

abbrev pub invariant-loop-l : goal.invariant-loop-l
invariant-loop-l l = record {
  shows : Shows l.marks (take l.l-index l.clause);
  sum : l.sum ≡ weight l.salt l.marks;
}
