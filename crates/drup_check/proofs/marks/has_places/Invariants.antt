use Rattle.std.proofs.Common.{◌+◌, ◌*◌, ◌<◌, length, take}
use Rattle.std.specs.Prelude.{All}
use Rattle.drup_check.proofs.marks.has_places.Given as goal

abbrev pub invariant-loop-l : goal.invariant-loop-l
invariant-loop-l l = All (λ m. 2 * m.var + 1 < length l.marks) (take l.l-index l.clause)
