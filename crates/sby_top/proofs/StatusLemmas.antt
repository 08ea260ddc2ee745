use Rattle.std.proofs.Common.{◌≢◌, List, refl, subst}
use Rattle.std.specs.Prelude.{Contains, Option, Some, None}
use Rattle.race_core.specs.Told.{Decided}
use Rattle.sby_terms.specs.Decide.{Decides}
use Rattle.sby_terms.specs.Status.{HasStatus}
use Rattle.sby_terms.specs.declared.names.Answer.{Answer}
use Rattle.sby_terms.specs.declared.names.Event.{Event}
use Rattle.sby_terms.specs.declared.names.Event.TheVariants.{Memory as MemoryEvent}
use Rattle.sby_terms.specs.declared.names.Mode.{Mode}
use Rattle.sby_terms.specs.declared.names.Status.{Status}
use Rattle.sby_terms.specs.declared.names.Status.TheVariants.{Pass, Fail, Unknown, Error, Timeout, Memory}
use Rattle.sby_terms.specs.declared.names.Verdict.{Verdict}
use Rattle.sby_terms.specs.declared.names.Verdict.TheVariants.{Pass as PassVerdict, Fail as FailVerdict}

-- a verdict's status doesn't depend on the events
pub verdict_status : (verdict : Verdict) (events others : List Event) (status : Status) → HasStatus (Some verdict) events status → HasStatus (Some verdict) others status
verdict_status verdict events others Pass h = h
verdict_status verdict events others Fail h = h
verdict_status verdict events others Unknown h = absurd h
verdict_status verdict events others Error h = absurd h
verdict_status verdict events others Timeout h = absurd h
verdict_status verdict events others Memory h = absurd h

-- without a verdict, out of memory is MEMORY
pub no_memory : (events : List Event) (status : Status) → HasStatus None events status → status ≢ Memory → Contains events MemoryEvent → ⊥
no_memory events Memory h apart among = apart refl
no_memory events Timeout h apart among = h.0 among
no_memory events Error h apart among = h.0 among
no_memory events Unknown h apart among = h.0 among
no_memory events Pass h apart among = h
no_memory events Fail h apart among = h

-- PASS and FAIL are verdicts
pub pass_decides : (mode : Mode) (answers : List (Option Answer)) (events : List Event) (verdict : Option Verdict) → Decided mode answers verdict → HasStatus verdict events Pass → Decides mode answers PassVerdict
pass_decides mode answers events None d h = absurd h
pass_decides mode answers events (Some v) d h = subst (Decides mode answers) h d

pub fail_decides : (mode : Mode) (answers : List (Option Answer)) (events : List Event) (verdict : Option Verdict) → Decided mode answers verdict → HasStatus verdict events Fail → Decides mode answers FailVerdict
fail_decides mode answers events None d h = absurd h
fail_decides mode answers events (Some v) d h = subst (Decides mode answers) h d
