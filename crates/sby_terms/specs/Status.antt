-- The status of a task that ran its lanes.
use Rattle.std.specs.Prelude.{◌≡◌, List, Option, Some, None, Contains}
use Rattle.sby_terms.specs.declared.names.Event.{Event}
use Rattle.sby_terms.specs.declared.names.Event.TheVariants.{Fault, Stopped, Memory as MemoryEvent}
use Rattle.sby_terms.specs.declared.names.Status.{Status}
use Rattle.sby_terms.specs.declared.names.Status.TheVariants.{Pass, Fail, Unknown, Error, Timeout, Memory}
use Rattle.sby_terms.specs.declared.names.Verdict.{Verdict}
use Rattle.sby_terms.specs.declared.names.Verdict.TheVariants.{Pass as PassVerdict, Fail as FailVerdict}

-- the status is this, where these verdict was decided and the ends of the unsettled jobs were these events
abbrev pub HasStatus : Option Verdict → List Event → Status → Type 0
HasStatus (Some v) events Pass = v ≡ PassVerdict
HasStatus (Some v) events Fail = v ≡ FailVerdict
HasStatus (Some v) events _ = ⊥
HasStatus None events Memory = Contains events MemoryEvent
HasStatus None events Timeout = (¬ Contains events MemoryEvent) × Contains events Stopped
HasStatus None events Error = (¬ Contains events MemoryEvent) × (¬ Contains events Stopped) × Contains events Fault
HasStatus None events Unknown = (¬ Contains events MemoryEvent) × (¬ Contains events Stopped) × (¬ Contains events Fault)
HasStatus None events _ = ⊥
