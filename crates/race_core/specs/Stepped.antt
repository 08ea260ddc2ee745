-- One event of a lane's state.
use Rattle.std.specs.Prelude.{◌≡◌}
use Rattle.race_core.specs.Parts.{Terms, reader_after, keeper_after, place_after}
use Rattle.race_core.specs.declared.step.LaneState.{LaneState}
use Rattle.race_core.specs.declared.event.LaneEvent.{LaneEvent}
use Rattle.race_core.specs.declared.event.LaneEvent.TheVariants as event

-- an event of the reader's list
abbrev pub IsReaders : {T : Type 0} → LaneEvent T → Type 0
IsReaders (event.Read n p) = Unit
IsReaders (event.File n p) = Unit
IsReaders (event.Settle won) = Unit
IsReaders event.ReaderMemory = Unit
IsReaders (event.Turns n) = ⊥
IsReaders (event.Poll p) = ⊥
IsReaders (event.Clock t) = ⊥
IsReaders (event.Look c known) = ⊥
IsReaders event.Kill = ⊥
IsReaders event.KeeperMemory = ⊥
IsReaders event.Took = ⊥
IsReaders event.Start = ⊥
IsReaders event.Finish = ⊥
IsReaders event.Gave = ⊥

-- an event of the reader's list changes the reader's part alone
abbrev pub IsReaderStep : {T : Type 0} → LaneEvent T → LaneState T → LaneState T → Type 0
IsReaderStep e before after = (after.reader ≡ reader_after e before.reader) × (after.keeper ≡ before.keeper) × (after.place ≡ before.place)

-- one of the keeper's changes the keeper's and the place
abbrev pub IsKeeperStep : {T : Type 0} → Terms T → LaneEvent T → LaneState T → LaneState T → Type 0
IsKeeperStep a e before after = (after.reader ≡ before.reader) × (after.keeper ≡ keeper_after a e before.keeper) × (after.place ≡ place_after e before.place)

abbrev pub IsStep : {T : Type 0} → Terms T → LaneEvent T → LaneState T → LaneState T → Type 0
IsStep {T} a (event.Read n p) before after = IsReaderStep {T = T} (event.Read n p) before after
IsStep {T} a (event.File n p) before after = IsReaderStep {T = T} (event.File n p) before after
IsStep {T} a (event.Settle won) before after = IsReaderStep {T = T} (event.Settle won) before after
IsStep {T} a event.ReaderMemory before after = IsReaderStep {T = T} event.ReaderMemory before after
IsStep {T} a (event.Turns n) before after = IsKeeperStep {T = T} a (event.Turns n) before after
IsStep {T} a (event.Poll p) before after = IsKeeperStep {T = T} a (event.Poll p) before after
IsStep {T} a (event.Clock t) before after = IsKeeperStep {T = T} a (event.Clock t) before after
IsStep {T} a (event.Look c known) before after = IsKeeperStep {T = T} a (event.Look c known) before after
IsStep {T} a event.Kill before after = IsKeeperStep {T = T} a event.Kill before after
IsStep {T} a event.KeeperMemory before after = IsKeeperStep {T = T} a event.KeeperMemory before after
IsStep {T} a event.Took before after = IsKeeperStep {T = T} a event.Took before after
IsStep {T} a event.Start before after = IsKeeperStep {T = T} a event.Start before after
IsStep {T} a event.Finish before after = IsKeeperStep {T = T} a event.Finish before after
IsStep {T} a event.Gave before after = IsKeeperStep {T = T} a event.Gave before after
