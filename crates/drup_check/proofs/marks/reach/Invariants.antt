use Rattle.std.proofs.Common.{◌+◌, ◌*◌, ◌<◌, ◌≤◌, [], length, take}
use Rattle.std.specs.Prelude.{All}
use Rattle.unit_propagation.specs.Marks.{Shows}
use Rattle.drup_check.proofs.marks.reach.Given as goal

abbrev pub invariant-loop-l : goal.invariant-loop-l
invariant-loop-l l = record {
  clear : Shows l.fn.marks.items [] → Shows l.marks.items [];
  longer : length l.fn.marks.items ≤ length l.marks.items;
  places : All (λ m. 2 * m.var + 1 < length l.marks.items) (take l.l-index l.clause);
}
