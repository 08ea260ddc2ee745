use Rattle.std.proofs.Common.{◌≡◌, ◌++◌, All, length, map}
use Rattle.design_core.specs.Places.{place_of}
use Rattle.design_core.specs.Shape.{IsDeclared}
use Rattle.design_signals.specs.Chunks.{bits_of}
use Rattle.source_rows.proofs.rows.fill_row.Given as goal

abbrev pub invariant-bits : goal.invariant-bits
invariant-bits l = record {
  declared : All (IsDeclared l.design.wires l.design.free) l.left;
  listed : l.row.items ++ map (place_of l.design) l.left ≡ map (place_of l.design) (bits_of l.signal);
}

abbrev pub decreases-bits : goal.decreases-bits
decreases-bits l = length l.left
