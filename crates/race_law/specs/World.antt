-- A world of lanes: what each has read and seen so far, and one set-once cell per job.
use Rattle.std.specs.Prelude.{◌≡◌, ◌⊎◌, ℕ, zero, suc, ◌+◌, ◌≤◌, ◌<◌, Bool, true, false, ◌||◌, List, [], ◌∷◌, ◌++◌, Option, Some, None}
use Rattle.race_core.specs.Report.{EventsOf, no_events}
use Rattle.race_core.specs.Parts.{Terms, reader_of, keeper_of, place_of, shows_limit, RightReader, RightKeeper, RightPlace}
use Rattle.race_core.specs.declared.event.Polled.TheVariants as polled
use Rattle.race_core.specs.Ends.{IsKilled}
use Rattle.race_core.specs.declared.event.Judged.{Judged}
use Rattle.race_core.specs.declared.event.Judged.TheVariants as progress
use Rattle.race_core.specs.declared.event.LaneEvent.{LaneEvent}
use Rattle.race_core.specs.declared.event.LaneEvent.TheVariants as event
use Rattle.race_core.specs.declared.part.Reader.{Reader}
use Rattle.race_core.specs.declared.part.Reader.TheVariants as reader
use Rattle.race_core.specs.declared.part.Keeper.{Keeper}

-- What a lane's child gives for a job: the progress at each count of bytes, what it is judged as if the stream ends there, what the
-- proof file is judged as, and how many bytes there are.
pub record Script (T : Type 0) : Type 0 where
  pub at : ℕ → Judged T
  pub ended : ℕ → Judged T
  pub file : Judged T
  pub size : ℕ

-- what a job is asked under, by its place, and the script of each lane's job; None where the lane doesn't serve it
pub record Race (T : Type 0) : Type 0 where
  pub lanes : ℕ
  pub jobs : ℕ
  pub terms : ℕ → Terms T
  pub script : ℕ → ℕ → Option (Script T)

-- the events so far of each lane's job, and the cells
pub record World (T : Type 0) : Type 0 where
  pub events : ℕ → ℕ → EventsOf T
  pub cells : ℕ → Option T

-- one event of one lane's job
pub record Step (T : Type 0) : Type 0 where
  pub lane : ℕ
  pub job : ℕ
  pub event : LaneEvent T

abbrev pub read_bytes : {T : Type 0} → List (LaneEvent T) → ℕ
read_bytes [] = 0
read_bytes (event.Read n p ∷ es) = n + read_bytes es
read_bytes (event.File n p ∷ es) = read_bytes es
read_bytes (event.Settle won ∷ es) = read_bytes es
read_bytes (event.ReaderMemory ∷ es) = read_bytes es
read_bytes (event.Turns n ∷ es) = read_bytes es
read_bytes (event.Poll p ∷ es) = read_bytes es
read_bytes (event.Clock t ∷ es) = read_bytes es
read_bytes (event.Look c known ∷ es) = read_bytes es
read_bytes (event.Kill ∷ es) = read_bytes es
read_bytes (event.KeeperMemory ∷ es) = read_bytes es
read_bytes (event.Took ∷ es) = read_bytes es
read_bytes (event.Start ∷ es) = read_bytes es
read_bytes (event.Finish ∷ es) = read_bytes es
read_bytes (event.Gave ∷ es) = read_bytes es

-- a read of this many bytes gives this progress, where the script has it, where it failed, or where memory ran out
abbrev pub ReadGives : {T : Type 0} → Script T → ℕ → Keeper T → ℕ → Judged T → Type 0
ReadGives s taken k n progress.Failed = Unit
ReadGives s taken k n progress.Unjudged = Unit
ReadGives s taken k zero p = (p ≡ s.ended taken) × ((taken ≡ s.size) ⊎ IsKilled k)
ReadGives s taken k (suc n) p = (p ≡ s.at (taken + suc n)) × (taken + suc n ≤ s.size)

-- the proof file is asked for after the whole output, where the keeper didn't kill
abbrev pub FileGives : {T : Type 0} → Script T → ℕ → Keeper T → Judged T → Type 0
FileGives s taken k progress.Failed = IsKilled k → ⊥
FileGives s taken k progress.Unjudged = IsKilled k → ⊥
FileGives s taken k progress.More = (progress.More ≡ s.file) × (taken ≡ s.size) × (IsKilled k → ⊥)
FileGives s taken k (progress.Found f) = ((progress.Found f) ≡ s.file) × (taken ≡ s.size) × (IsKilled k → ⊥)
FileGives s taken k progress.Unknown = (progress.Unknown ≡ s.file) × (taken ≡ s.size) × (IsKilled k → ⊥)
FileGives s taken k (progress.Bad number at) = ((progress.Bad number at) ≡ s.file) × (taken ≡ s.size) × (IsKilled k → ⊥)

-- a served job
abbrev pub OfScript : {T : Type 0} → Option (Script T) → (Script T → Type 0) → Type 0
OfScript None P = ⊥
OfScript (Some s) P = P s

-- the reader holds this finding
abbrev pub Holds : {T : Type 0} → Reader T → T → Type 0
Holds (reader.Holding g b) f = g ≡ f
Holds reader.Fresh f = ⊥
Holds reader.Reading f = ⊥
Holds reader.Asking f = ⊥
Holds reader.Unjudged f = ⊥
Holds (reader.Found g b won) f = ⊥
Holds (reader.Unknown b) f = ⊥
Holds (reader.Bad number at b) f = ⊥
Holds reader.Failed f = ⊥
Holds reader.Short f = ⊥
Holds reader.Wrong f = ⊥

-- A set-once exchange: it wins on an empty cell, and leaves a full one.
abbrev pub Exchanges : {T : Type 0} → ℕ → Reader T → Bool → (ℕ → Option T) → (ℕ → Option T) → Type 0
Exchanges {T} job r true before after =
    (before job ≡ None) × ((f : T) × Holds r f × (after job ≡ Some f)) × ((c : ℕ) → (c ≡ job → ⊥) → after c ≡ before c)
Exchanges {T} job r false before after = ((g : T) × (before job ≡ Some g)) × ((c : ℕ) → after c ≡ before c)

-- the cells stay
abbrev pub Stays : {T : Type 0} → (ℕ → Option T) → (ℕ → Option T) → Type 0
Stays before after = (c : ℕ) → after c ≡ before c

-- What the world has to say to an event of a lane's job: the script to a read and the file, the cells to a settle and a look.
abbrev pub Meets : {T : Type 0} → Option (Script T) → ℕ → EventsOf T → Keeper T → LaneEvent T → (ℕ → Option T) → (ℕ → Option T) → Type 0
Meets script job es k (event.Read n p) before after = OfScript script (λ s. ReadGives s (read_bytes es.reader) k n p) × Stays before after
Meets script job es k (event.File n p) before after = OfScript script (λ s. FileGives s (read_bytes es.reader) k p) × Stays before after
Meets script job es k (event.Settle won) before after = Exchanges job (reader_of es) won before after
Meets script job es k (event.Look c known) before after = (known ≡ before c) × Stays before after
Meets script job es k event.ReaderMemory before after = Stays before after
Meets script job es k (event.Turns n) before after = Stays before after
Meets script job es k (event.Poll p) before after = Stays before after
Meets script job es k (event.Clock t) before after = Stays before after
Meets script job es k event.Kill before after = Stays before after
Meets script job es k event.KeeperMemory before after = Stays before after
Meets script job es k event.Took before after = Stays before after
Meets script job es k event.Start before after = Stays before after
Meets script job es k event.Finish before after = Stays before after
Meets script job es k event.Gave before after = Stays before after

-- the events with one more, of the reader or of the keeper
abbrev pub with_event : {T : Type 0} → LaneEvent T → EventsOf T → EventsOf T
with_event (event.Read n p) es = record es { reader = es.reader ++ event.Read n p ∷ [] }
with_event (event.File n p) es = record es { reader = es.reader ++ event.File n p ∷ [] }
with_event (event.Settle won) es = record es { reader = es.reader ++ event.Settle won ∷ [] }
with_event event.ReaderMemory es = record es { reader = es.reader ++ event.ReaderMemory ∷ [] }
with_event (event.Turns n) es = record es { keeper = es.keeper ++ event.Turns n ∷ [] }
with_event (event.Poll p) es = record es { keeper = es.keeper ++ event.Poll p ∷ [] }
with_event (event.Clock t) es = record es { keeper = es.keeper ++ event.Clock t ∷ [] }
with_event (event.Look c known) es = record es { keeper = es.keeper ++ event.Look c known ∷ [] }
with_event event.Kill es = record es { keeper = es.keeper ++ event.Kill ∷ [] }
with_event event.KeeperMemory es = record es { keeper = es.keeper ++ event.KeeperMemory ∷ [] }
with_event event.Took es = record es { keeper = es.keeper ++ event.Took ∷ [] }
with_event event.Start es = record es { keeper = es.keeper ++ event.Start ∷ [] }
with_event event.Finish es = record es { keeper = es.keeper ++ event.Finish ∷ [] }
with_event event.Gave es = record es { keeper = es.keeper ++ event.Gave ∷ [] }

-- One step of the world: the event is met, it makes no part Wrong, and it is the only one that is new.
pub record Steps {T : Type 0} (race : Race T) (w : World T) (s : Step T) (v : World T) : Type 0 where
  pub meets : Meets (race.script s.lane s.job) s.job (w.events s.lane s.job) (keeper_of (race.terms s.job) (w.events s.lane s.job)) s.event w.cells v.cells
  pub here : v.events s.lane s.job ≡ with_event s.event (w.events s.lane s.job)
  pub elsewhere : (i j : ℕ) → (i ≡ s.lane → j ≡ s.job → ⊥) → v.events i j ≡ w.events i j
  pub right_reader : RightReader (reader_of (v.events s.lane s.job))
  pub right_keeper : RightKeeper (keeper_of (race.terms s.job) (v.events s.lane s.job))
  pub right_place : RightPlace (place_of (v.events s.lane s.job))

-- any list of steps
abbrev pub WorldRun : {T : Type 0} → Race T → World T → List (Step T) → World T → Type 0
WorldRun race w [] v = w ≡ v
WorldRun {T} race w (s ∷ ss) v = (u : World T) × Steps race w s u × WorldRun race u ss v

-- nothing has happened, and the cells are empty
pub record IsNew {T : Type 0} (w : World T) : Type 0 where
  pub events : (i j : ℕ) → w.events i j ≡ no_events
  pub cells : (c : ℕ) → w.cells c ≡ None

-- no failed poll, no reading that shows the limit, and memory did not run out
abbrev pub IsQuiet : {T : Type 0} → Terms T → LaneEvent T → Type 0
IsQuiet a (event.Poll p) = p ≡ polled.Failed → ⊥
IsQuiet a (event.Clock r) = shows_limit a.start a.limit r ≡ false
IsQuiet a event.KeeperMemory = ⊥
IsQuiet a (event.Turns n) = Unit
IsQuiet a (event.Look c known) = Unit
IsQuiet a event.Kill = Unit
IsQuiet a event.Took = Unit
IsQuiet a event.Start = Unit
IsQuiet a event.Finish = Unit
IsQuiet a event.Gave = Unit
IsQuiet a (event.Read n p) = Unit
IsQuiet a (event.File n p) = Unit
IsQuiet a (event.Settle won) = Unit
IsQuiet a event.ReaderMemory = Unit

abbrev pub QuietRun : {T : Type 0} → Race T → List (Step T) → Type 0
QuietRun race [] = Unit
QuietRun race (s ∷ ss) = IsQuiet (race.terms s.job) s.event × QuietRun race ss

-- the first of two that isn't More
abbrev pub first_judged : {T : Type 0} → Judged T → Judged T → Judged T
first_judged progress.More q = q
first_judged p q = p

-- Plain: what a script is judged as with no thread, cell or order
abbrev pub plain : {T : Type 0} → Script T → Judged T
plain s = first_judged (s.at s.size) (first_judged (s.ended s.size) s.file)

-- What makes scripts scripts: nothing stands before the first byte; what stands once, stands from there on.
pub record IsScript {T : Type 0} (IsFor : T → Type 0) (s : Script T) : Type 0 where
  pub first : s.at 0 ≡ progress.More
  pub steady : (a b : ℕ) → a ≤ b → (s.at a ≡ progress.More) ⊎ (s.at b ≡ s.at a)
  pub at_for : (n : ℕ) (f : T) → s.at n ≡ progress.Found f → IsFor f
  pub ended_for : (n : ℕ) (f : T) → s.ended n ≡ progress.Found f → IsFor f
  pub file_for : (f : T) → s.file ≡ progress.Found f → IsFor f

-- a finding ends a job, before its start or after it
abbrev pub ends_job : {T : Type 0} → Terms T → T → Bool
ends_job a f = a.skipped f || a.needless f

-- What makes a race: scripts that are scripts, findings for one job each, and a finding that ends a job is for that job or
-- decides the task whatever that job's end; what decides so against what decides, decides.
pub record IsRace {T : Type 0} (IsFor : ℕ → T → Type 0) (Fatal : ℕ → T → Type 0) (race : Race T) : Type 0 where
  pub within : (i j : ℕ) (s : Script T) → race.script i j ≡ Some s → (i < race.lanes) × (j < race.jobs)
  pub scripts : (i j : ℕ) (s : Script T) → race.script i j ≡ Some s → IsScript (IsFor j) s
  pub needless : (j c : ℕ) (f : T) → ends_job (race.terms j) f ≡ true → IsFor c f → IsFor j f ⊎ Fatal j f
  pub for_job : (j : ℕ) (f : T) → IsFor j f → j < race.jobs
  pub one_job : (j k : ℕ) (f : T) → IsFor j f → IsFor k f → j ≡ k
  pub alike : (j c : ℕ) (f g : T) → IsFor c f → IsFor c g → Fatal j g → Fatal j f
  pub onward : (j c : ℕ) (f g : T) → IsFor c g → Fatal c f → Fatal j g → Fatal j f

-- the lane serves the job
abbrev pub Serves : {T : Type 0} → (ℕ → ℕ → Option (Script T)) → ℕ → ℕ → Type 0
Serves {T} script i j = (s : Script T) × (script i j ≡ Some s)
