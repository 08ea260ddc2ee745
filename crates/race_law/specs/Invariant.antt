-- What every step of a world keeps, of one lane's job.
use Rattle.std.specs.Prelude.{◌≡◌, ◌⊎◌, ℕ, Bool, true, false, List, [], ◌∷◌, Option, Some, None}
use Rattle.race_core.specs.Ends.{IsKilled}
use Rattle.race_core.specs.Report.{EventsOf}
use Rattle.race_core.specs.Parts.{Terms, reader_of, keeper_of, RightReader, RightKeeper}
use Rattle.race_law.specs.World.{Script, Race, World, OfScript, ends_job, plain, read_bytes}
use Rattle.race_core.specs.declared.part.By.{By}
use Rattle.race_core.specs.declared.event.Judged.TheVariants as progress
use Rattle.race_core.specs.declared.event.LaneEvent.{LaneEvent}
use Rattle.race_core.specs.declared.event.LaneEvent.TheVariants as event
use Rattle.race_core.specs.declared.part.By.TheVariants as by
use Rattle.race_core.specs.declared.part.Reader.{Reader}
use Rattle.race_core.specs.declared.part.Reader.TheVariants as reader
use Rattle.race_core.specs.declared.part.Keeper.{Keeper}
use Rattle.race_core.specs.declared.part.Keeper.TheVariants as keeper
use Rattle.race_core.specs.declared.part.Reason.{Reason}
use Rattle.race_core.specs.declared.part.Reason.TheVariants as reason

-- A reader's part is that of its script, or came by a stream that ended early after the kill.
abbrev pub FromScript : {T : Type 0} → (T → Type 0) → Option (Script T) → ℕ → Type 0 → Reader T → Type 0
FromScript P script taken K reader.Fresh = taken ≡ 0
FromScript P script taken K reader.Reading = OfScript script (λ s. s.at taken ≡ progress.More)
FromScript P script taken K reader.Asking = OfScript script (λ s. ((s.at s.size ≡ progress.More) × (s.ended s.size ≡ progress.More)) ⊎ K)
FromScript P script taken K (reader.Holding f b) = OfScript script (λ s. P f × ((plain s ≡ progress.Found f) ⊎ K))
FromScript P script taken K (reader.Found f b won) = OfScript script (λ s. P f × ((plain s ≡ progress.Found f) ⊎ K))
FromScript P script taken K (reader.Unknown b) = OfScript script (λ s. (plain s ≡ progress.Unknown) ⊎ (K × (b ≡ by.Close)))
FromScript P script taken K (reader.Bad number at b) = OfScript script (λ s. (plain s ≡ progress.Bad number at) ⊎ K)
FromScript P script taken K reader.Unjudged = Unit
FromScript P script taken K reader.Failed = Unit
FromScript P script taken K reader.Short = Unit
FromScript P script taken K reader.Wrong = Unit

-- A keeper's reason is a finding that stands in a cell and ends the job, or else Q.
abbrev pub ReasonOk : {T : Type 0} → (T → Bool) → (ℕ → Option T) → Type 0 → Reason T → Type 0
ReasonOk needless cells Q (reason.Skip f) = (needless f ≡ true) × ((c : ℕ) × (cells c ≡ Some f))
ReasonOk needless cells Q (reason.Needless f) = (needless f ≡ true) × ((c : ℕ) × (cells c ≡ Some f))
ReasonOk needless cells Q (reason.Limit t) = Q
ReasonOk needless cells Q reason.Fault = Q
ReasonOk needless cells Q reason.Memory = Q

abbrev pub KeeperOk : {T : Type 0} → (T → Bool) → (ℕ → Option T) → Type 0 → Keeper T → Type 0
KeeperOk needless cells Q (keeper.Due why) = ReasonOk needless cells Q why
KeeperOk needless cells Q (keeper.Killed why) = ReasonOk needless cells Q why
KeeperOk needless cells Q keeper.Fresh = Unit
KeeperOk needless cells Q keeper.Looked = Unit
KeeperOk needless cells Q keeper.Turning = Unit
KeeperOk needless cells Q keeper.Wrong = Unit

-- what the looks of a list know stands in the cells
abbrev pub LooksOk : {T : Type 0} → (ℕ → Option T) → List (LaneEvent T) → Type 0
LooksOk cells [] = Unit
LooksOk cells (event.Look c (Some f) ∷ es) = (cells c ≡ Some f) × LooksOk cells es
LooksOk cells (event.Look c None ∷ es) = LooksOk cells es
LooksOk cells (event.Read n p ∷ es) = LooksOk cells es
LooksOk cells (event.File n p ∷ es) = LooksOk cells es
LooksOk cells (event.Settle won ∷ es) = LooksOk cells es
LooksOk cells (event.ReaderMemory ∷ es) = LooksOk cells es
LooksOk cells (event.Turns n ∷ es) = LooksOk cells es
LooksOk cells (event.Poll p ∷ es) = LooksOk cells es
LooksOk cells (event.Clock t ∷ es) = LooksOk cells es
LooksOk cells (event.Kill ∷ es) = LooksOk cells es
LooksOk cells (event.KeeperMemory ∷ es) = LooksOk cells es
LooksOk cells (event.Took ∷ es) = LooksOk cells es
LooksOk cells (event.Start ∷ es) = LooksOk cells es
LooksOk cells (event.Finish ∷ es) = LooksOk cells es
LooksOk cells (event.Gave ∷ es) = LooksOk cells es

-- what a settle won stands in the job's cell
abbrev pub WonOk : {T : Type 0} → (ℕ → Option T) → ℕ → Reader T → Type 0
WonOk cells j (reader.Found f b true) = cells j ≡ Some f
WonOk cells j (reader.Found f b false) = Unit
WonOk cells j reader.Fresh = Unit
WonOk cells j reader.Reading = Unit
WonOk cells j reader.Asking = Unit
WonOk cells j reader.Unjudged = Unit
WonOk cells j (reader.Holding f b) = Unit
WonOk cells j (reader.Unknown b) = Unit
WonOk cells j (reader.Bad number at b) = Unit
WonOk cells j reader.Failed = Unit
WonOk cells j reader.Short = Unit
WonOk cells j reader.Wrong = Unit

-- What every step keeps of one lane's job. Q is what noise leaves open: nothing in a quiet run, all in another.
pub record SeatInv {T : Type 0} (P : T → Type 0) (Q : Type 0) (script : Option (Script T)) (a : Terms T) (j : ℕ) (es : EventsOf T) (cells : ℕ → Option T) : Type 0 where
  pub from : FromScript P script (read_bytes es.reader) (IsKilled (keeper_of a es)) (reader_of es)
  pub keeper : KeeperOk (ends_job a) cells Q (keeper_of a es)
  pub looks : LooksOk cells es.keeper
  pub won : WonOk cells j (reader_of es)
  pub right_reader : RightReader (reader_of es)
  pub right_keeper : RightKeeper (keeper_of a es)

-- Some lane's script is judged as a finding for the job, or as one that decides the task whatever the end of the job.
abbrev pub PlainHas : {T : Type 0} → (ℕ → T → Type 0) → (ℕ → T → Type 0) → Race T → ℕ → Type 0
PlainHas {T} IsFor Fatal race j =
    ((i : ℕ) × (s : Script T) × (f : T) × (race.script i j ≡ Some s) × (plain s ≡ progress.Found f) × IsFor j f)
    ⊎ ((i : ℕ) × (k : ℕ) × (s : Script T) × (f : T) × (race.script i k ≡ Some s) × (plain s ≡ progress.Found f) × IsFor k f × Fatal j f)

-- What every step keeps of the world: each cell's finding is for its job, and was found and won by a lane whose part still has it.
pub record Inv {T : Type 0} (IsFor : ℕ → T → Type 0) (Fatal : ℕ → T → Type 0) (Q : Type 0) (race : Race T) (w : World T) : Type 0 where
  pub seat : (i j : ℕ) → SeatInv (IsFor j) Q (race.script i j) (race.terms j) j (w.events i j) w.cells
  pub cell : (c : ℕ) (f : T) → w.cells c ≡ Some f
      → IsFor c f × ((i : ℕ) × (b : By) × (reader_of (w.events i c) ≡ reader.Found f b true)) × (PlainHas IsFor Fatal race c ⊎ Q)
