-- Turns that run at the same time: what is known of each between its preparing and its lines.
use Rattle.std.specs.Prelude.{◌≡◌, ℕ, ◌+◌, ◌<◌, ◌≤◌, List, [], ◌∷◌, ◌++◌, length, take, Bool, true, false, Option, Some, string_bytes}
use Rattle.jobs_pool.specs.Places.{PoolOf}
use Rattle.sby_edge.specs.Child.{YardOf}
use Rattle.sby_file.specs.Config.{ConfigOf}
use Rattle.sby_top.specs.Causes.{HasReason}
use Rattle.sby_top.specs.Ending.{IsAskedTurn}
use Rattle.sby_top.specs.Ready.{IsReady, WasPrepared, WasRaced}
use Rattle.sby_top.specs.Task.{IsAskable, task_seen}
use Rattle.sby_top.specs.Turns.{AreTurnsOf, Refused, Run, Turn}
use Rattle.sby_top.specs.World.{FilesOf, World, files_of, with_files, with_yard}
use Rattle.sby_top.specs.declared.slot.Slot.{Slot}
use Rattle.sby_top.specs.declared.slot.Stage.{Stage}
use Rattle.sby_top.specs.declared.slot.Stage.TheVariants as stage
use Rattle.task_race.specs.Bays.{BackOf, NoneStarted}

-- A turn of a call under the allowance of this pool, which has this number, whose preparing led from these files to those: only a fault is to be
-- told; the task ended before its lanes; it is ready for its race; or its lanes were raced, in bays of a yard with these scripts.
abbrev pub IsAt : {L : Type 0} → (L → BackOf) → (ℕ → Type 0) → PoolOf → Option YardOf → ℕ → (got put : FilesOf) → Turn → Stage L → Type 0
IsAt back may_read pool scripts number got put turn (stage.Refused name early) = (turn ≡ Refused (string_bytes name) early) × (put ≡ got)
IsAt back may_read pool scripts number got put turn (stage.Ended task early) =
    (turn ≡ Run (task_seen task)) × IsAskable (task_seen task) × HasReason (task_seen task) got put early × (got.faults ≤ put.faults)
IsAt back may_read pool scripts number got put turn (stage.Ready task ready) =
    (turn ≡ Run (task_seen task)) × IsAskable (task_seen task) × WasPrepared (task_seen task) got put ready.problem × IsReady back (task_seen task) number (Some pool) put.told scripts ready
IsAt back may_read pool scripts number got put turn (stage.Raced task raced) =
    (turn ≡ Run (task_seen task)) × IsAskable (task_seen task) × WasPrepared (task_seen task) got put raced.problem × WasRaced back (task_seen task) number (Some pool) may_read put.told scripts raced

-- the race of a turn is over, or it has none
abbrev pub IsOver : {L : Type 0} → Stage L → Type 0
IsOver (stage.Refused name early) = Unit {0}
IsOver (stage.Ended task early) = Unit {0}
IsOver (stage.Ready task ready) = ⊥
IsOver (stage.Raced task raced) = Unit {0}

-- a slot holds such a turn
abbrev pub Holds : {L : Type 0} → Slot L → (Stage L → Type 0) → Type 0
Holds {L = L} slot P = (held : Stage L) × (slot.stage ≡ Some held) × P held

-- slots hold these turns, numbered from this one on, whose preparing led from these files to those
abbrev pub AreWaiting : {L : Type 0} → (L → BackOf) → (ℕ → Type 0) → PoolOf → Option YardOf → ℕ → FilesOf → List Turn → FilesOf → List (Slot L) → Type 0
AreWaiting back may_read pool scripts number got [] last [] = last ≡ got
AreWaiting back may_read pool scripts number got (turn ∷ turns) last (slot ∷ slots) =
    (put : FilesOf) × (slot.number ≡ number) × Holds slot (IsAt back may_read pool scripts number got put turn) × AreWaiting back may_read pool scripts (number + 1) put turns last slots
AreWaiting back may_read pool scripts number got [] last (slot ∷ slots) = ⊥
AreWaiting back may_read pool scripts number got (turn ∷ turns) last [] = ⊥

-- The first of these turns wait in slots, as they were prepared from one moment to another, for which nothing was started: all of them, or, where
-- memory ran out for a name, those before it.
pub record AreSlotted {L : Type 0} (back : L → BackOf) (may_read : ℕ → Type 0) (pool : PoolOf) (start now : World) (turns : List Turn) (is_all : Bool) (slots : List (Slot L)) : Type 0 where
  pub waiting : AreWaiting back may_read pool start.yard.scripts 0 (files_of start) (take (length slots) turns) (files_of now) slots
  pub all : is_all ≡ true → length turns ≡ length slots
  pub few : is_all ≡ false → length slots < length turns
  pub spared : NoneStarted start.yard now.yard
  pub silent : now ≡ with_yard (with_files start (files_of now)) now.yard

-- The turns of the tasks that were asked for so far wait in slots.
pub record AreSlottedFor {L : Type 0} (back : L → BackOf) (may_read : ℕ → Type 0) (pool : PoolOf) (start now : World) (stem : List ℕ) (directory : Option (List ℕ)) (c : ConfigOf) (asked : List (Option (List ℕ))) (slots : List (Slot L)) : Type 0 where
  pub turns : List Turn
  pub are : AreTurnsOf stem directory c asked turns
  pub waiting : AreWaiting back may_read pool start.yard.scripts 0 (files_of start) turns (files_of now) slots
  pub spared : NoneStarted start.yard now.yard
  pub silent : now ≡ with_yard (with_files start (files_of now)) now.yard

-- one turn more waits in a slot, numbered by how many wait before it; or memory ran out for its name, and nothing was done
abbrev pub IsSlotted : {L : Type 0} → (L → BackOf) → (ℕ → Type 0) → PoolOf → World → World → List ℕ → Option (List ℕ) → ConfigOf → Option (List ℕ) → List (Slot L) → List (Slot L) → Bool → Type 0
IsSlotted back may_read pool before after stem directory c asked old new true =
    (turn : Turn) × (slot : Slot _) × IsAskedTurn stem directory c asked turn × (new ≡ old ++ slot ∷ []) × (slot.number ≡ length old)
    × Holds slot (IsAt back may_read pool before.yard.scripts (length old) (files_of before) (files_of after) turn)
    × NoneStarted before.yard after.yard × (after ≡ with_yard (with_files before (files_of after)) after.yard)
IsSlotted back may_read pool before after stem directory c asked old new false = (after ≡ before) × (new ≡ old)
