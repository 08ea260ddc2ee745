use Rattle.std.proofs.Common.{◌≡◌, take}
use Rattle.design_lower.proofs.copies.copy_constant.Given as goal

abbrev pub invariant-loop-place : goal.invariant-loop-place
invariant-loop-place l = l.digits.items ≡ take l.place l.constant
