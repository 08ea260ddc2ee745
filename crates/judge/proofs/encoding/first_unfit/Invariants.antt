use Rattle.judge.specs.Stored.{FitUpTo}
use Rattle.judge.proofs.encoding.first_unfit.Given as goal

abbrev pub invariant-loop-name : goal.invariant-loop-name
invariant-loop-name l = FitUpTo l.net l.bits l.span l.names l.name-index
