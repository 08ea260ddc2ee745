use Rattle.std.proofs.Common.{◌≡◌, true, take}
use Rattle.std.specs.Prelude.{All}
use Rattle.unit_propagation.specs.Marks.{is_marked}
use Rattle.drup_check.proofs.marks.is_within.Given as goal

abbrev pub invariant-loop-l : goal.invariant-loop-l
invariant-loop-l l = All (λ m. is_marked l.marks m ≡ true) (take l.l-index l.clause)
