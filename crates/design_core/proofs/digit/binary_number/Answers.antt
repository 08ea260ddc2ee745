use Rattle.std.proofs.Common.{◌+◌, ◌*◌, ◌^◌, ◌≤◌, arith}
use Rattle.design_core.proofs.Numbers.{number-past}
use Rattle.design_core.proofs.digit.binary_number.Goals as goal

pub returns-then-number-digit : goal.returns-then-number-digit
returns-then-number-digit c =
    let some : 1 ≤ c.loop-place.place = omega arith in
    let past : 2 ^ 64 ≤ 2 * c.loop-place.number + c.digit_number-digit.result = omega arith in
    record { some = tt; none = number-past _ _ _ _ _ some c.loop-place.auto.place c.digit_number-digit.ensures.value c.loop-place.invariant past }
