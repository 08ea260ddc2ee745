use Rattle.std.proofs.Common.{◌++◌, List, Bool, Option, All, length}
use Rattle.design_core.specs.Asked.{output_of}
use Rattle.design_core.specs.Shape.{IsDeclared}
use Rattle.design_lower.specs.Progress.{IsDigitsOf}
use Rattle.design_lower.proofs.starts.end_digits.Given as goal

abbrev pub invariant-bits : goal.invariant-bits
invariant-bits l = record {
  declared : All (IsDeclared l.design.wires l.design.free) l.left;
  later : (rest : List (Option Bool)) → IsDigitsOf l.design l.digit l.left rest → IsDigitsOf l.design l.digit (output_of l.cell) (l.digits.items ++ rest);
}

abbrev pub decreases-bits : goal.decreases-bits
decreases-bits l = length l.left
