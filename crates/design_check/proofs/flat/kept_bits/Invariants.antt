use Rattle.std.proofs.Common.{◌≡◌, ◌*◌, ◌^◌, ◌≤◌, take}
use Rattle.std.specs.List.{sum_by}
use Rattle.design_meaning.specs.Runs.{kept_width}
use Rattle.design_check.proofs.flat.kept_bits.Given as goal

abbrev pub invariant-loop-cell : goal.invariant-loop-cell
invariant-loop-cell l = record {
  counted : l.kept ≡ sum_by kept_width (take l.cell-index l.cell-items);
  most : l.kept ≤ l.cell-index * 2 ^ 96;
}
