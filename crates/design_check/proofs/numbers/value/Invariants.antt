use Rattle.std.proofs.Common.{◌≡◌, drop}
use Rattle.design_core.specs.Digits.{digits_number}
use Rattle.design_check.proofs.numbers.value.Given as goal

abbrev pub invariant-loop-place : goal.invariant-loop-place
invariant-loop-place l = l.number ≡ digits_number (drop l.place l.constant)
