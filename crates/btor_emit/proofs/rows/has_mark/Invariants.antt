use Rattle.std.proofs.Common.{◌≡◌, drop}
use Rattle.btor_emit.specs.Marks.{has_mark}
use Rattle.btor_emit.proofs.rows.has_mark.Given as goal

abbrev pub invariant-loop-place : goal.invariant-loop-place
invariant-loop-place l = has_mark l.marks l.row ≡ has_mark l.marks (drop l.place-index l.row)
