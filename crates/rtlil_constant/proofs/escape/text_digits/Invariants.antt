use Rattle.std.proofs.Common.{◌≡◌, ◌++◌, length}
use Rattle.rtlil_constant.specs.Constants.{string_digits, unescaped}
use Rattle.rtlil_constant.proofs.escape.text_digits.Given as goal

abbrev pub invariant-bytes : goal.invariant-bytes
invariant-bytes l = l.digits.items ++ string_digits (unescaped 0 l.rest) ≡ string_digits (unescaped 0 l.inside)

abbrev pub decreases-bytes : goal.decreases-bytes
decreases-bytes l = length l.rest
