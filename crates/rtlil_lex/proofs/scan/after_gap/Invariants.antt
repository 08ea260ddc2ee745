use Rattle.std.proofs.Common.{ℕ, List, length}
use Rattle.rtlil_lex.specs.Tokens.{Gap}
use Rattle.rtlil_lex.proofs.scan.after_gap.Given as goal

abbrev pub invariant-gap : goal.invariant-gap
invariant-gap l = (behind : List ℕ) → Gap behind l.rest → Gap behind l.bytes

abbrev pub decreases-gap : goal.decreases-gap
decreases-gap l = length l.rest
