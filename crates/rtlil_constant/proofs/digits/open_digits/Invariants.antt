use Rattle.std.proofs.Common.{◌≡◌, ◌+◌, ◌≤◌, drop}
use Rattle.rtlil_constant.specs.Constants.{open_digits}
use Rattle.rtlil_constant.proofs.digits.open_digits.Given as goal

abbrev pub invariant-loop-digit : goal.invariant-loop-digit
invariant-loop-digit l = (l.count + open_digits (drop l.digit-index l.digits) ≡ open_digits l.digits) × (l.count ≤ l.digit-index)
