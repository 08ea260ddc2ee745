use Rattle.std.proofs.Common.{◌≡◌, List, ℕ, ◌++◌, length}
use Rattle.rtlil_constant.specs.Constants.{cut}
use Rattle.rtlil_constant.proofs.ConstantLemmas.{behind_all}
use Rattle.rtlil_constant.proofs.number.cut.Given as goal

-- what is passed has no mark
abbrev pub invariant-bytes : goal.invariant-bytes
invariant-bytes l = (front : List ℕ) × (l.word ≡ front ++ l.rest) × (cut l.mark l.word ≡ behind_all front (cut l.mark l.rest))

abbrev pub decreases-bytes : goal.decreases-bytes
decreases-bytes l = length l.rest
