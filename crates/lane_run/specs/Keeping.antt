-- What a job's keeper does to its lane's notes, and what its list says of looks and readings.
use Rattle.std.specs.Prelude.{◌≡◌, ◌⊎◌, ℕ, ◌<◌, List, [], ◌∷◌, Option, None, Some, IsSomeAnd, map}
use Rattle.sby_terms.specs.Problem.{ProblemOf}
use Rattle.sby_terms.specs.declared.names.JobName.{JobName}
use Rattle.sby_terms.specs.declared.names.JobName.TheVariants as name
use Rattle.race_core.specs.declared.step.JobTerms.{JobTerms}
use Rattle.race_cells.specs.Notes.{NoteOf, known_at}
use Rattle.race_core.specs.Carrying.{Looked}
use Rattle.race_core.specs.declared.event.LaneEvent.{LaneEvent}
use Rattle.race_core.specs.declared.event.LaneEvent.TheVariants as event
use Rattle.race_core.specs.declared.part.Keeper.{Keeper}
use Rattle.race_core.specs.declared.part.Keeper.TheVariants as keeper
use Rattle.race_core.specs.declared.part.Reason.{Reason}
use Rattle.race_core.specs.declared.part.Reason.TheVariants as reason

-- the event is this reading of the clock
abbrev pub IsReading : {T : Type 0} → ℕ → LaneEvent T → Type 0
IsReading r (event.Clock t) = t ≡ r
IsReading r (event.Read n p) = ⊥
IsReading r (event.File n p) = ⊥
IsReading r (event.Settle won) = ⊥
IsReading r event.ReaderMemory = ⊥
IsReading r (event.Turns n) = ⊥
IsReading r (event.Poll p) = ⊥
IsReading r (event.Look c known) = ⊥
IsReading r event.Kill = ⊥
IsReading r event.KeeperMemory = ⊥
IsReading r event.Took = ⊥
IsReading r event.Start = ⊥
IsReading r event.Finish = ⊥
IsReading r event.Gave = ⊥

-- the list has this reading
abbrev pub HasReading : {T : Type 0} → ℕ → List (LaneEvent T) → Type 0
HasReading r [] = ⊥
HasReading r (e ∷ es) = IsReading r e ⊎ HasReading r es

-- the event is the keeper's kill
abbrev pub IsKill : {T : Type 0} → LaneEvent T → Type 0
IsKill (event.Read n p) = ⊥
IsKill (event.File n p) = ⊥
IsKill (event.Settle won) = ⊥
IsKill event.ReaderMemory = ⊥
IsKill (event.Turns n) = ⊥
IsKill (event.Poll p) = ⊥
IsKill (event.Clock r) = ⊥
IsKill (event.Look c known) = ⊥
IsKill event.Kill = Unit {0}
IsKill event.KeeperMemory = ⊥
IsKill event.Took = ⊥
IsKill event.Start = ⊥
IsKill event.Finish = ⊥
IsKill event.Gave = ⊥

-- the list has a kill
abbrev pub HasKill : {T : Type 0} → List (LaneEvent T) → Type 0
HasKill [] = ⊥
HasKill (e ∷ es) = IsKill e ⊎ HasKill es

-- the event is the start of a child
abbrev pub IsChildStart : {T : Type 0} → LaneEvent T → Type 0
IsChildStart (event.Read n p) = ⊥
IsChildStart (event.File n p) = ⊥
IsChildStart (event.Settle won) = ⊥
IsChildStart event.ReaderMemory = ⊥
IsChildStart (event.Turns n) = ⊥
IsChildStart (event.Poll p) = ⊥
IsChildStart (event.Clock r) = ⊥
IsChildStart (event.Look c known) = ⊥
IsChildStart event.Kill = ⊥
IsChildStart event.KeeperMemory = ⊥
IsChildStart event.Took = ⊥
IsChildStart event.Start = Unit {0}
IsChildStart event.Finish = ⊥
IsChildStart event.Gave = ⊥

-- the list has a start
abbrev pub HasChildStart : {T : Type 0} → List (LaneEvent T) → Type 0
HasChildStart [] = ⊥
HasChildStart (e ∷ es) = IsChildStart e ⊎ HasChildStart es

-- what the looks of a list show, and its readings, are those of another list, with those of this entry; and it has their starts
pub record Adds {T : Type 0} (entry : LaneEvent T) (events events' : List (LaneEvent T)) : Type 0 where
  pub looks : (place : ℕ) (f : T) → Looked place f events' → Looked place f events ⊎ Looked place f (entry ∷ [])
  pub readings : (r : ℕ) → HasReading r events' → HasReading r events ⊎ IsReading r entry
  pub starts : HasChildStart events ⊎ IsChildStart entry → HasChildStart events'

-- an entry that shows no finding and has no reading
abbrev pub IsPlain : {T : Type 0} → LaneEvent T → Type 0
IsPlain (event.Read n p) = Unit {0}
IsPlain (event.File n p) = Unit {0}
IsPlain (event.Settle won) = Unit {0}
IsPlain event.ReaderMemory = Unit {0}
IsPlain (event.Turns n) = Unit {0}
IsPlain (event.Poll p) = Unit {0}
IsPlain (event.Clock r) = ⊥
IsPlain (event.Look c None) = Unit {0}
IsPlain (event.Look c (Some f)) = ⊥
IsPlain event.Kill = Unit {0}
IsPlain event.KeeperMemory = Unit {0}
IsPlain event.Took = Unit {0}
IsPlain event.Start = Unit {0}
IsPlain event.Finish = Unit {0}
IsPlain event.Gave = Unit {0}

-- notes of the same cells, that still know what they knew
pub record Remember {T : Type 0} (before now : List (NoteOf T)) : Type 0 where
  pub cells : map (λ n. n.cell) now ≡ map (λ n. n.cell) before
  pub knows : (place : ℕ) (f : T) → known_at before place ≡ Some f → known_at now place ≡ Some f

-- a slice
abbrev pub IsSlice : JobName → Type 0
IsSlice (name.Base k) = Unit {0}
IsSlice name.Step = ⊥
IsSlice name.Inv = ⊥
IsSlice (name.Cover k) = ⊥

-- A finding that a look at the cell at this place may show: one for the job of the problem whose cell it is. The cells are the job's
-- own; where a finding for another job can make it needless, that one's; and those of the slices before a slice, at the places before its own.
abbrev pub IsOfCell : {T : Type 0} → (T → ProblemOf) → (T → JobName) → ProblemOf → JobTerms → Option (ℕ × JobName) → ℕ → T → Type 0
IsOfCell problem job p terms other place f =
    (problem f ≡ p)
    × (((place ≡ terms.cell) × (job f ≡ terms.job))
    ⊎ IsSomeAnd other (λ o. (place ≡ o.0) × (job f ≡ o.1))
    ⊎ (IsSlice terms.job × (place < terms.cell) × (job f ≡ name.Base place)))

-- Between two moments of a keeper the notes forget nothing; what a new look shows is then known to them, and is of that cell; each new
-- reading is one that the clock may give; and a start stays in the list.
pub record Keeps {T : Type 0} (of_cell : ℕ → T → Type 0) (may_read : ℕ → Type 0) (notes notes' : List (NoteOf T)) (events events' : List (LaneEvent T)) : Type 0 where
  pub remember : Remember notes notes'
  pub looks : (place : ℕ) (f : T) → Looked place f events' → Looked place f events ⊎ (of_cell place f × (known_at notes' place ≡ Some f))
  pub readings : (r : ℕ) → HasReading r events' → HasReading r events ⊎ may_read r
  pub starts : HasChildStart events → HasChildStart events'

-- the keeper has looked, and takes its turns
abbrev pub TakesTurns : {T : Type 0} → Keeper T → Type 0
TakesTurns keeper.Looked = Unit {0}
TakesTurns keeper.Turning = Unit {0}
TakesTurns keeper.Fresh = ⊥
TakesTurns (keeper.Due why) = ⊥
TakesTurns (keeper.Killed why) = ⊥
TakesTurns keeper.Wrong = ⊥

-- a reason to end a child that was started
abbrev pub EndsChild : {T : Type 0} → Reason T → Type 0
EndsChild (reason.Needless f) = Unit {0}
EndsChild (reason.Limit r) = Unit {0}
EndsChild reason.Fault = Unit {0}
EndsChild reason.Memory = Unit {0}
EndsChild (reason.Skip f) = ⊥

-- the keeper is over: it takes its turns no more, or killed the child
abbrev pub HasKept : {T : Type 0} → Keeper T → Type 0
HasKept keeper.Looked = Unit {0}
HasKept keeper.Turning = Unit {0}
HasKept (keeper.Killed why) = EndsChild why
HasKept keeper.Fresh = ⊥
HasKept (keeper.Due why) = ⊥
HasKept keeper.Wrong = ⊥
