use Rattle.std.proofs.Common.{◌≡◌, drop}
use Rattle.lrat_check.specs.Checking.{live_of}
use Rattle.cert_judge.specs.Lrat.{first_bad}
use Rattle.cert_judge.proofs.certificate.first_bad.Given as goal

abbrev pub invariant-loop-hint : goal.invariant-loop-hint
invariant-loop-hint l = first_bad (live_of l.checker) l.hints ≡ first_bad (live_of l.checker) (drop l.hint-index l.hints)
