use Rattle.std.proofs.Common.{◌≤◌, length, take}
use Rattle.std.specs.Prelude.{All}
use Rattle.lrat_check.specs.Marks.{HasPlaces, IsClear}
use Rattle.lrat_check.proofs.marks.reach.Given as goal

abbrev pub invariant-loop-l : goal.invariant-loop-l
invariant-loop-l l = record {
  clear : IsClear l.fn.marks.items → IsClear l.marks.items;
  longer : length l.fn.marks.items ≤ length l.marks.items;
  places : All (HasPlaces l.marks.items) (take l.l-index l.clause);
}
