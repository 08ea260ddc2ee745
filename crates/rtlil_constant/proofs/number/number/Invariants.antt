use Rattle.std.proofs.Common.{◌≡◌, ℕ, min, length}
use Rattle.rtlil_constant.specs.Constants.{number_from, number_of}
use Rattle.rtlil_constant.proofs.number.number.Given as goal

-- the number so far, before it is cut
abbrev pub invariant-digits : goal.invariant-digits
invariant-digits l = (n : ℕ) × (l.value ≡ min n 18446744073709551615) × (number_from n l.rest ≡ number_of l.word)

abbrev pub decreases-digits : goal.decreases-digits
decreases-digits l = length l.rest
