use Rattle.std.proofs.Common.{◌≡◌, ◌++◌, take}
use Rattle.std.specs.List.{filter}
use Rattle.btor_emit.specs.Marks.{has_mark}
use Rattle.btor_emit.proofs.rows.push_rows.Given as goal

abbrev pub invariant-loop-k : goal.invariant-loop-k
invariant-loop-k l = l.read ≡ l.fn.read ++ filter (has_mark l.marks) (take l.k l.rows)
