use Rattle.std.proofs.Common.{◌≡◌, ◌++◌, drop}
use Rattle.cert_judge.specs.Lrat.{ids_of}
use Rattle.cert_judge.proofs.certificate.fill_ids.Given as goal

abbrev pub invariant-loop-hint : goal.invariant-loop-hint
invariant-loop-hint l = ids_of l.hints ≡ l.ids.items ++ ids_of (drop l.hint-index l.hints)
