-- What the end of an unsettled job says to the status, and what the answers decide.
use Rattle.std.specs.Prelude.{List, Option, Some, None}
use Rattle.sby_terms.specs.Decide.{Decides}
use Rattle.sby_terms.specs.declared.names.Mode.{Mode}
use Rattle.sby_terms.specs.declared.names.Answer.{Answer}
use Rattle.sby_terms.specs.declared.names.Verdict.{Verdict}
use Rattle.sby_terms.specs.declared.names.Event.{Event}
use Rattle.sby_terms.specs.declared.names.Event.TheVariants as told
use Rattle.race_core.specs.declared.end.JobEnd.{JobEnd}
use Rattle.race_core.specs.declared.end.JobEnd.TheVariants as end

-- what the end of an unsettled job says to the status
abbrev pub told_by : {T : Type 0} → JobEnd T → Event
told_by (end.Bad number at) = told.Fault
told_by end.ReadFailed = told.Fault
told_by end.StartFailed = told.Fault
told_by end.HoldFailed = told.Fault
told_by (end.Stopped t) = told.Stopped
told_by end.Memory = told.Memory
told_by (end.Found f) = told.Quiet
told_by end.Unknown = told.Quiet
told_by end.NotServed = told.Quiet
told_by (end.Skipped f) = told.Quiet
told_by (end.CalledOff f) = told.Quiet

-- what the answers decide
abbrev pub Decided : Mode → List (Option Answer) → Option Verdict → Type 0
Decided mode answers (Some v) = Decides mode answers v
Decided mode answers None = (v : Verdict) → Decides mode answers v → ⊥
