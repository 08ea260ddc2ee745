-- The fates that outcomes are.
use Rattle.std.specs.Prelude.{Option, Some, None}
use Rattle.sby_terms.specs.declared.names.Answer.TheVariants.{Sat, Unsat}
use Rattle.cert_judge.specs.Fate.{Fate, Found, Unknown, Bad}
use Rattle.cert_judge.specs.declared.stream.Outcome.{Outcome}
use Rattle.cert_judge.specs.declared.stream.Outcome.TheVariants.{Refuted, Satisfied, Unknown as IsUnknown, Bad as IsBad}

abbrev pub fate_of : Outcome → Fate
fate_of Refuted = Found Unsat
fate_of Satisfied = Found Sat
fate_of IsUnknown = Unknown
fate_of (IsBad b) = Bad b.kind b.at

-- the fate that is told; None tells that there is none yet
abbrev pub fate_told : Option Outcome → Option Fate
fate_told None = None
fate_told (Some o) = Some (fate_of o)
