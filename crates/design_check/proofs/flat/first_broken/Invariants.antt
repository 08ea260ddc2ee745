use Rattle.std.proofs.Common.{◌≡◌, ℕ, ◌<◌, ◌≤◌, length, take}
use Rattle.std.specs.List.{filter}
use Rattle.design_meaning.specs.Meaning.{Broken, is_assert}
use Rattle.design_meaning.specs.Runs.{valuation_of}
use Rattle.design_check.proofs.flat.first_broken.Given as goal

abbrev pub invariant-loop-cell : goal.invariant-loop-cell
invariant-loop-cell l =
    (l.number ≡ length (filter (λ c. is_assert c.kind) (take l.cell-index l.cells)))
    × (l.number ≤ l.cell-index)
    × ((k : ℕ) → k < l.number → Broken l.design (valuation_of l.design l.cycle) k → ⊥)
