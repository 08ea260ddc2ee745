use Rattle.std.proofs.Common.{◌≡◌, ◌≤◌, length, take}
use Rattle.std.specs.List.{filter}
use Rattle.design_meaning.specs.Meaning.{is_cover}
use Rattle.sby_lines.proofs.tell_covers.cover_name.Given as goal

abbrev pub invariant-loop-cell : goal.invariant-loop-cell
invariant-loop-cell l = record {
  counted : l.before ≡ length (filter (λ c. is_cover c.kind) (take l.cell-index l.cells));
  least : l.before ≤ l.number;
  most : l.before ≤ l.cell-index;
}
