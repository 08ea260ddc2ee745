-- The states of the reader and the keeper of a job after their events. Each event changes one part alone, so how the two lists are
-- merged doesn't matter. An event that can't come there makes its part Wrong, which stays.
use Rattle.std.specs.Prelude.{ℕ, zero, suc, ◌-◌, ◌==◌, Bool, true, false, cond, List, [], ◌∷◌, Option, Some, None}
use Rattle.std.proofs.Common.{leb, ◌&&◌}
use Rattle.race_core.specs.Report.{EventsOf}
use Rattle.race_core.specs.declared.event.Judged.{Judged}
use Rattle.race_core.specs.declared.event.Judged.TheVariants as progress
use Rattle.race_core.specs.declared.event.Polled.TheVariants as polled
use Rattle.race_core.specs.declared.event.LaneEvent.{LaneEvent}
use Rattle.race_core.specs.declared.event.LaneEvent.TheVariants as event
use Rattle.race_core.specs.declared.part.By.{By}
use Rattle.race_core.specs.declared.part.By.TheVariants as by
use Rattle.race_core.specs.declared.part.Reader.{Reader}
use Rattle.race_core.specs.declared.part.Reader.TheVariants as reader
use Rattle.race_core.specs.declared.part.Keeper.{Keeper}
use Rattle.race_core.specs.declared.part.Keeper.TheVariants as keeper
use Rattle.race_core.specs.declared.part.Reason.{Reason}
use Rattle.race_core.specs.declared.part.Reason.TheVariants as reason
use Rattle.race_core.specs.declared.part.Place.{Place}
use Rattle.race_core.specs.declared.part.Place.TheVariants as place

-- What a job's first state keeps: the place of its cell, which findings make it needless and which skip it before its start (none with
-- `wait` on), and the limit.
pub record Terms (T : Type 0) : Type 0 where
  pub cell : ℕ
  pub needless : T → Bool
  pub skipped : T → Bool
  pub start : ℕ
  pub limit : Option ℕ

-- a read of 0 bytes is the stream's end
abbrev pub by_of : ℕ → By
by_of zero = by.Close
by_of (suc n) = by.Bytes

-- the state of a reader that went on, by what it was judged as
abbrev pub judged : {T : Type 0} → By → Judged T → Reader T
judged by.Bytes progress.More = reader.Reading
judged by.Close progress.More = reader.Asking
judged by.File progress.More = reader.Wrong
judged b (progress.Found f) = reader.Holding f b
judged b progress.Unknown = reader.Unknown b
judged b (progress.Bad number at) = reader.Bad number at b
judged b progress.Failed = reader.Failed
judged b progress.Unjudged = reader.Unjudged

-- a read
abbrev pub after_read : {T : Type 0} → ℕ → Judged T → Reader T → Reader T
after_read n p reader.Fresh = judged (by_of n) p
after_read n p reader.Reading = judged (by_of n) p
after_read n p r = reader.Wrong

-- the proof file, after an output that ended without an answer
abbrev pub after_file : {T : Type 0} → Judged T → Reader T → Reader T
after_file p reader.Asking = judged by.File p
after_file p r = reader.Wrong

-- the reader settles what it holds
abbrev pub after_settle : {T : Type 0} → Bool → Reader T → Reader T
after_settle won (reader.Holding f b) = reader.Found f b won
after_settle won r = reader.Wrong

-- out of memory drops what the reader holds
abbrev pub after_want : {T : Type 0} → Reader T → Reader T
after_want reader.Fresh = reader.Short
after_want reader.Reading = reader.Short
after_want reader.Asking = reader.Short
after_want reader.Unjudged = reader.Short
after_want (reader.Holding f b) = reader.Short
after_want r = reader.Wrong

-- the reader after one of its events
abbrev pub reader_after : {T : Type 0} → LaneEvent T → Reader T → Reader T
reader_after (event.Read n p) r = after_read n p r
reader_after (event.File n p) r = after_file p r
reader_after (event.Settle won) r = after_settle won r
reader_after event.ReaderMemory r = after_want r
reader_after (event.Turns n) r = reader.Wrong
reader_after (event.Poll p) r = reader.Wrong
reader_after (event.Clock t) r = reader.Wrong
reader_after (event.Look c known) r = reader.Wrong
reader_after event.Kill r = reader.Wrong
reader_after event.KeeperMemory r = reader.Wrong
reader_after event.Took r = reader.Wrong
reader_after event.Start r = reader.Wrong
reader_after event.Finish r = reader.Wrong
reader_after event.Gave r = reader.Wrong

-- a keeper that has no reason yet gets one
abbrev pub comes_due : {T : Type 0} → Reason T → Keeper T → Keeper T
comes_due why keeper.Fresh = keeper.Due why
comes_due why keeper.Looked = keeper.Due why
comes_due why keeper.Turning = keeper.Due why
comes_due why k = keeper.Wrong

-- a keeper that found no reason goes on
abbrev pub turns : {T : Type 0} → Keeper T → Keeper T
turns keeper.Fresh = keeper.Turning
turns keeper.Looked = keeper.Turning
turns keeper.Turning = keeper.Turning
turns k = keeper.Wrong

-- A look. The first at the job's own cell, with those at other cells after it, comes before the start; a later one is a turn's.
abbrev pub after_look : {T : Type 0} → Bool → Option T → Bool → Keeper T → Keeper T
after_look own (Some f) true keeper.Fresh = keeper.Due (reason.Skip f)
after_look own known tells keeper.Fresh = keeper.Looked
after_look true (Some f) true keeper.Looked = keeper.Due (reason.Needless f)
after_look false (Some f) true keeper.Looked = keeper.Due (reason.Skip f)
after_look true known tells keeper.Looked = keeper.Turning
after_look false known tells keeper.Looked = keeper.Looked
after_look own (Some f) true keeper.Turning = keeper.Due (reason.Needless f)
after_look own known tells keeper.Turning = keeper.Turning
after_look own known tells k = keeper.Wrong

-- which findings end the job, by where its keeper stands: before the start those that skip it, from then on those that make it needless
abbrev pub ending : {T : Type 0} → Terms T → Bool → Keeper T → T → Bool
ending a own keeper.Fresh = a.skipped
ending a true keeper.Looked = a.needless
ending a false keeper.Looked = a.skipped
ending a own keeper.Turning = a.needless
ending a own (keeper.Due why) = a.needless
ending a own (keeper.Killed why) = a.needless
ending a own keeper.Wrong = a.needless

-- whether what is known ends the job
abbrev pub tells_ending : {T : Type 0} → (T → Bool) → Option T → Bool
tells_ending ends None = false
tells_ending ends (Some f) = ends f

-- whether a reading shows the limit
abbrev pub shows_limit : ℕ → Option ℕ → ℕ → Bool
shows_limit start None r = false
shows_limit start (Some limit) r = leb start r && leb limit (r - start)

-- the kill, for a reason that it has
abbrev pub after_kill : {T : Type 0} → Keeper T → Keeper T
after_kill (keeper.Due why) = keeper.Killed why
after_kill k = keeper.Wrong

-- The keeper after one of its events. Those of the allowance change the place alone.
abbrev pub keeper_after : {T : Type 0} → Terms T → LaneEvent T → Keeper T → Keeper T
keeper_after a (event.Poll polled.Failed) k = comes_due reason.Fault k
keeper_after a (event.Poll polled.Exited) k = turns k
keeper_after a (event.Turns n) k = turns k
keeper_after a (event.Clock r) k = cond (shows_limit a.start a.limit r) (comes_due (reason.Limit r) k) (turns k)
keeper_after a (event.Look c known) k = after_look (c == a.cell) known (tells_ending (ending a (c == a.cell) k) known) k
keeper_after a event.Kill k = after_kill k
keeper_after a event.KeeperMemory k = comes_due reason.Memory k
keeper_after a event.Took k = k
keeper_after a event.Start k = k
keeper_after a event.Finish k = k
keeper_after a event.Gave k = k
keeper_after a (event.Read n p) k = keeper.Wrong
keeper_after a (event.File n p) k = keeper.Wrong
keeper_after a (event.Settle won) k = keeper.Wrong
keeper_after a event.ReaderMemory k = keeper.Wrong

-- what is held of the allowance, after one of the keeper's events
abbrev pub place_after : {T : Type 0} → LaneEvent T → Place → Place
place_after event.Took place.Away = place.Held
place_after event.Start place.Held = place.Used
place_after event.Finish place.Used = place.Back
place_after event.Gave place.Held = place.Away
place_after event.Gave place.Back = place.Away
place_after event.Took p = place.Wrong
place_after event.Start p = place.Wrong
place_after event.Finish p = place.Wrong
place_after event.Gave p = place.Wrong
place_after (event.Read n p) q = q
place_after (event.File n p) q = q
place_after (event.Settle won) q = q
place_after event.ReaderMemory q = q
place_after (event.Turns n) q = q
place_after (event.Poll p) q = q
place_after (event.Clock t) q = q
place_after (event.Look c known) q = q
place_after event.Kill q = q
place_after event.KeeperMemory q = q

-- the parts after a list of events
abbrev pub reader_from : {T : Type 0} → Reader T → List (LaneEvent T) → Reader T
reader_from r [] = r
reader_from r (e ∷ es) = reader_from (reader_after e r) es

abbrev pub keeper_from : {T : Type 0} → Terms T → Keeper T → List (LaneEvent T) → Keeper T
keeper_from a k [] = k
keeper_from a k (e ∷ es) = keeper_from a (keeper_after a e k) es

abbrev pub place_from : {T : Type 0} → Place → List (LaneEvent T) → Place
place_from p [] = p
place_from p (e ∷ es) = place_from (place_after e p) es

abbrev pub reader_of : {T : Type 0} → EventsOf T → Reader T
reader_of events = reader_from reader.Fresh events.reader

abbrev pub keeper_of : {T : Type 0} → Terms T → EventsOf T → Keeper T
keeper_of a events = keeper_from a keeper.Fresh events.keeper

abbrev pub place_of : {T : Type 0} → EventsOf T → Place
place_of events = place_from place.Away events.keeper

-- no event came that can't come there
abbrev pub RightReader : {T : Type 0} → Reader T → Type 0
RightReader reader.Wrong = ⊥
RightReader reader.Fresh = Unit
RightReader reader.Reading = Unit
RightReader reader.Asking = Unit
RightReader reader.Unjudged = Unit
RightReader (reader.Holding f b) = Unit
RightReader (reader.Found f b won) = Unit
RightReader (reader.Unknown b) = Unit
RightReader (reader.Bad number at b) = Unit
RightReader reader.Failed = Unit
RightReader reader.Short = Unit

abbrev pub RightKeeper : {T : Type 0} → Keeper T → Type 0
RightKeeper keeper.Wrong = ⊥
RightKeeper keeper.Fresh = Unit
RightKeeper keeper.Looked = Unit
RightKeeper keeper.Turning = Unit
RightKeeper (keeper.Due why) = Unit
RightKeeper (keeper.Killed why) = Unit

abbrev pub RightPlace : Place → Type 0
RightPlace place.Wrong = ⊥
RightPlace place.Away = Unit
RightPlace place.Held = Unit
RightPlace place.Used = Unit
RightPlace place.Back = Unit
