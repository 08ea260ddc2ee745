-- The ends of a world in which all lanes have ended.
use Rattle.std.specs.Prelude.{◌≡◌, ◌⊎◌, ℕ, ◌<◌, Option, Some, None}
use Rattle.race_core.specs.Carrying.{KnewBy, Carries}
use Rattle.race_core.specs.Report.{EventsOf, no_events}
use Rattle.race_core.specs.Parts.{Terms, reader_of, keeper_of, place_of}
use Rattle.race_core.specs.Ends.{EndIs, UnservedEndIs, IsLast}
use Rattle.race_law.specs.World.{Script, Race, World, plain}
use Rattle.race_core.specs.declared.event.Judged.{Judged}
use Rattle.race_core.specs.declared.event.Judged.TheVariants as progress
use Rattle.race_core.specs.declared.end.JobEnd.{JobEnd}
use Rattle.race_core.specs.declared.part.Place.TheVariants as place
use Rattle.race_core.specs.declared.end.JobEnd.TheVariants as end

-- the end follows from the events, where the job is served and where not
abbrev pub EndOf : {T : Type 0} → Option (Script T) → Terms T → (T → Type 0) → EventsOf T → JobEnd T → Type 0
EndOf None a known es e = UnservedEndIs a known (reader_of es) (keeper_of a es) e
EndOf (Some s) a known es e = EndIs a known (reader_of es) (keeper_of a es) e

-- A lane's job has ended so: by its events, which keep no place; or, after Stopped or Memory, the same and without events.
abbrev pub HasEnded : {T : Type 0} → Option (Script T) → Terms T → (ℕ → EventsOf T) → (ℕ → JobEnd T) → ℕ → Type 0
HasEnded script a events ends j =
    (((l : ℕ) → l < j → IsLast (ends l) → ⊥) × EndOf script a (KnewBy events j) (events j) (ends j) × (place_of (events j) ≡ place.Away))
    ⊎ ((l : ℕ) × (l < j) × IsLast (ends l) × (ends j ≡ ends l) × (events j ≡ no_events))

-- all lanes have ended
abbrev pub AllEnded : {T : Type 0} → Race T → World T → (ℕ → ℕ → JobEnd T) → Type 0
AllEnded race w ends = (i j : ℕ) → i < race.lanes → j < race.jobs → HasEnded (race.script i j) (race.terms j) (w.events i) (ends i) j

-- no end is Stopped, Memory or a failed call
abbrev pub IsCalm : {T : Type 0} → JobEnd T → Type 0
IsCalm end.ReadFailed = ⊥
IsCalm end.StartFailed = ⊥
IsCalm end.HoldFailed = ⊥
IsCalm (end.Stopped t) = ⊥
IsCalm end.Memory = ⊥
IsCalm (end.Found f) = Unit
IsCalm end.Unknown = Unit
IsCalm end.NotServed = Unit
IsCalm (end.Bad number at) = Unit
IsCalm (end.Skipped f) = Unit
IsCalm (end.CalledOff f) = Unit

-- some end carries a finding for the job
abbrev pub IsSettled : {T : Type 0} → (ℕ → T → Type 0) → Race T → (ℕ → ℕ → JobEnd T) → ℕ → Type 0
IsSettled {T} IsFor race ends k = (i : ℕ) × (j : ℕ) × (f : T) × (i < race.lanes) × (j < race.jobs) × Carries (ends i j) f × IsFor k f

-- .. or one that decides the task whatever the end of the job
abbrev pub RaceHas : {T : Type 0} → (ℕ → T → Type 0) → (ℕ → T → Type 0) → Race T → (ℕ → ℕ → JobEnd T) → ℕ → Type 0
RaceHas {T} IsFor Fatal race ends k =
    IsSettled IsFor race ends k
    ⊎ ((i : ℕ) × (j : ℕ) × (l : ℕ) × (f : T) × (i < race.lanes) × (j < race.jobs) × Carries (ends i j) f × IsFor l f × Fatal k f)

-- the end that a progress gives
abbrev pub end_of : {T : Type 0} → Judged T → JobEnd T
end_of progress.More = end.Bad 48 0
end_of (progress.Found f) = end.Found f
end_of progress.Unknown = end.Unknown
end_of (progress.Bad number at) = end.Bad number at
end_of progress.Failed = end.ReadFailed
end_of progress.Unjudged = end.Memory

-- Plain's end of a lane's job
abbrev pub plain_end : {T : Type 0} → Option (Script T) → JobEnd T
plain_end None = end.NotServed
plain_end (Some s) = end_of (plain s)
