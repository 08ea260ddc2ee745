use Rattle.std.proofs.Common.{◌≡◌, ◌≤◌, length, drop}
use Rattle.sby_bits.specs.Rows.{num}
use Rattle.cell_rows.proofs.choices.number.Given as goal

abbrev pub invariant-loop-place : goal.invariant-loop-place
invariant-loop-place l = (l.place ≤ length l.s) × (l.count ≡ num (drop l.place l.s))

abbrev pub decreases-loop-place : goal.decreases-loop-place
decreases-loop-place l = l.place
