use Rattle.std.proofs.Common.{◌≡◌, ◌≤◌, ◌++◌}
use Rattle.rtlil_constant.specs.Constants.{binary}
use Rattle.rtlil_constant.proofs.escape.push_binary.Given as goal

abbrev pub invariant-bits : goal.invariant-bits
invariant-bits l = (l.place ≤ l.count) × (l.digits.items ++ binary l.place l.number ≡ l.fn.digits.items ++ binary l.count l.number)

abbrev pub decreases-bits : goal.decreases-bits
decreases-bits l = l.place
