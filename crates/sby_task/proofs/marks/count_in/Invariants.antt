use Rattle.std.proofs.Common.{◌≡◌, ◌≤◌, ◌+◌, drop}
use Rattle.sby_task.specs.Marks.{count_in}
use Rattle.sby_task.proofs.marks.count_in.Given as goal

abbrev pub invariant-loop-i : goal.invariant-loop-i
invariant-loop-i l = record {
  few : l.count ≤ l.i;
  left : l.count + count_in l.mark (drop l.i l.bytes) ≡ count_in l.mark l.bytes;
}
