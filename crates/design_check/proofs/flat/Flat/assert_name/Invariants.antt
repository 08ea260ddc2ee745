use Rattle.std.proofs.Common.{◌≡◌, ◌≤◌, length, take}
use Rattle.std.specs.List.{filter}
use Rattle.design_meaning.specs.Meaning.{is_assert}
use Rattle.design_check.proofs.flat.Flat.assert_name.Given as goal

abbrev pub invariant-loop-cell : goal.invariant-loop-cell
invariant-loop-cell l = (l.before ≡ length (filter (λ c. is_assert c.kind) (take l.cell-index l.cells))) × (l.before ≤ l.number) × (l.before ≤ l.cell-index)
