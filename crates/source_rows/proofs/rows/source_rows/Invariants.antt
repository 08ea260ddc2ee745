use Rattle.std.proofs.Common.{◌≡◌, take}
use Rattle.std.specs.List.{flat_map}
use Rattle.source_rows.specs.Sources.{source_row}
use Rattle.source_rows.proofs.rows.source_rows.Given as goal

abbrev pub invariant-loop-place : goal.invariant-loop-place
invariant-loop-place l = l.rows ≡ flat_map (source_row l.design) (take l.place l.design.cells)
