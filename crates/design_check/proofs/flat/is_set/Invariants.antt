use Rattle.std.proofs.Common.{◌≡◌, All, length}
use Rattle.design_core.specs.Cells.{is_set}
use Rattle.design_core.specs.Shape.{IsDeclared}
use Rattle.design_meaning.specs.Meaning.{row_in}
use Rattle.design_meaning.specs.Runs.{valuation_of}
use Rattle.design_signals.specs.Chunks.{bits_of}
use Rattle.design_check.proofs.flat.is_set.Given as goal

abbrev pub invariant-bits : goal.invariant-bits
invariant-bits l = record {
  declared : All (IsDeclared l.design.wires l.design.free) l.left;
  same : is_set (row_in (valuation_of l.design l.cycle) l.left) ≡ is_set (row_in (valuation_of l.design l.cycle) (bits_of l.signal));
}

abbrev pub decreases-bits : goal.decreases-bits
decreases-bits l = length l.left
