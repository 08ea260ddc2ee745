use Rattle.std.proofs.Common.{◌+◌, drop}
use Rattle.design_core.specs.Digits.{digits_number}
use Rattle.design_check.proofs.Products.{IsSpare}
use Rattle.design_check.proofs.numbers.is_sum_within.Given as goal

abbrev pub invariant-loop-place : goal.invariant-loop-place
invariant-loop-place l = IsSpare l.spare (digits_number (drop l.place l.left) + digits_number (drop l.place l.right)) (digits_number (drop l.place l.whole))
