-- Which findings a lane knows by its events, and which an end carries.
use Rattle.std.specs.Prelude.{◌≡◌, ◌⊎◌, ℕ, ◌<◌, List, [], ◌∷◌, Some}
use Rattle.race_core.specs.Report.{EventsOf}
use Rattle.race_core.specs.Parts.{reader_of}
use Rattle.race_core.specs.Ends.{HasEnd}
use Rattle.race_core.specs.declared.event.LaneEvent.{LaneEvent}
use Rattle.race_core.specs.declared.event.LaneEvent.TheVariants as event
use Rattle.race_core.specs.declared.end.JobEnd.{JobEnd}
use Rattle.race_core.specs.declared.end.JobEnd.TheVariants as end

-- a look of the list showed this finding in this cell
abbrev pub Looked : {T : Type 0} → ℕ → T → List (LaneEvent T) → Type 0
Looked c f [] = ⊥
Looked c f (event.Look d known ∷ es) = ((d ≡ c) × (known ≡ Some f)) ⊎ Looked c f es
Looked c f (event.Read n p ∷ es) = Looked c f es
Looked c f (event.File n p ∷ es) = Looked c f es
Looked c f (event.Settle won ∷ es) = Looked c f es
Looked c f (event.ReaderMemory ∷ es) = Looked c f es
Looked c f (event.Turns n ∷ es) = Looked c f es
Looked c f (event.Poll p ∷ es) = Looked c f es
Looked c f (event.Clock t ∷ es) = Looked c f es
Looked c f (event.Kill ∷ es) = Looked c f es
Looked c f (event.KeeperMemory ∷ es) = Looked c f es
Looked c f (event.Took ∷ es) = Looked c f es
Looked c f (event.Start ∷ es) = Looked c f es
Looked c f (event.Finish ∷ es) = Looked c f es
Looked c f (event.Gave ∷ es) = Looked c f es

-- the lane knew this finding by the events of an earlier job: its own, or one that a look showed
abbrev pub KnewBy : {T : Type 0} → (ℕ → EventsOf T) → ℕ → T → Type 0
KnewBy events j f = (l : ℕ) × (l < j) × (HasEnd (reader_of (events l)) (end.Found f) ⊎ ((c : ℕ) × Looked c f (events l).keeper))

-- the end carries this finding
abbrev pub Carries : {T : Type 0} → JobEnd T → T → Type 0
Carries (end.Found g) f = g ≡ f
Carries (end.Skipped g) f = g ≡ f
Carries (end.CalledOff g) f = g ≡ f
Carries end.Unknown f = ⊥
Carries end.NotServed f = ⊥
Carries (end.Bad number at) f = ⊥
Carries end.ReadFailed f = ⊥
Carries end.StartFailed f = ⊥
Carries end.HoldFailed f = ⊥
Carries (end.Stopped t) f = ⊥
Carries end.Memory f = ⊥
