use Rattle.std.proofs.Common.{◌≡◌, ◌+◌, ◌-◌, ◌*◌, ◌^◌, ◌≤◌, ℕ, drop, ap, arith}
use Rattle.design_core.specs.Digits.{digits_number}
use Rattle.design_core.proofs.Numbers.{digits_number-drop-le}
use Rattle.design_check.proofs.numbers.value.Goals as goal

pub returns-then-number-digit : goal.returns-then-number-digit
returns-then-number-digit c =
    let xs = c.args.constant.now in
    let p = c.loop-place.place in
    let some : 1 ≤ c.loop-place.place = omega arith in
    let past : 2 ^ 64 ≤ 2 * c.loop-place.number + c.digit_at-digit.result = omega arith in
    let next : (c.loop-place.place - 1) + 1 ≡ c.loop-place.place = omega arith in
    let same = ap (λ (k : ℕ). digits_number (drop k c.args.constant.now)) next in
    omega (arith, digits_number-drop-le (p - 1) xs, c.digit_at-digit.ensures.digit, same, c.loop-place.invariant, past)
