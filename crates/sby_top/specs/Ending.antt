-- Turns as they run.
use Rattle.std.specs.Prelude.{◌≡◌, ◌⊎◌, ℕ, List, ◌∷◌, [], ◌++◌, length, Option, Bool, true, false, bit_or, Result, Ok, Err}
use Rattle.sby_file.specs.Config.{ConfigOf}
use Rattle.sby_task.specs.Expand.{expansion}
use Rattle.sby_lines.specs.declared.tell.Stop.{Stop}
use Rattle.sby_lines.specs.declared.tell.Stop.TheVariants.{Memory as MemoryStop, Sink}
use Rattle.sby_top.specs.Headline.{Exit, Code, Cut}
use Rattle.sby_top.specs.Run.{Ran, RanUnder, TurnRan, rc_of_exit}
use Rattle.sby_top.specs.Turns.{AreTurnsOf, IsNameOf, IsTurnOf, Turn}
use Rattle.sby_top.specs.World.{FilesOf, World, at_once}
use Rattle.sby_top.specs.declared.outcome.Done.{Done}
use Rattle.sby_top.specs.declared.outcome.TaskEnd.{TaskEnd}

-- the turns ran under this allowance, or one after the other, with these ends and this exit status
abbrev pub RunsTo : Option ℕ → (ℕ → Type 0) → World → List Turn → World → Done → Type 0
RunsTo jobs may_read before turns after done = (exit : Exit) × RanUnder jobs may_read before turns done.ends.items after exit × (done.rc ≡ rc_of_exit exit)

-- a turn ran in one go, from one moment to another
abbrev pub RanAtOnce : (ℕ → Type 0) → ℕ → World → World → Turn → TaskEnd → Exit → Type 0
RanAtOnce may_read number before after turn end exit = (put : FilesOf) × TurnRan may_read number (at_once before put after) turn end exit

-- this is the turn of the task that is asked for
abbrev pub IsAskedTurn : List ℕ → Option (List ℕ) → ConfigOf → Option (List ℕ) → Turn → Type 0
IsAskedTurn stem directory c asked turn = (name : List ℕ) × IsNameOf stem directory c asked name × IsTurnOf name (expansion c asked) turn

-- one turn more ran, numbered by how many ran before, with its number in the exit status, and others may follow; or none may: the
-- sink failed, or memory ran out for the turn's name
abbrev pub IsAsk : (ℕ → Type 0) → World → World → List ℕ → Option (List ℕ) → ConfigOf → Option (List ℕ) → Done → Done → Bool → Type 0
IsAsk may_read before after stem directory c asked old new true =
    (turn : Turn) × (end : TaskEnd) × (rc : ℕ) × IsAskedTurn stem directory c asked turn × RanAtOnce may_read (length old.ends.items) before after turn end (Code rc)
    × (new.rc ≡ bit_or old.rc rc) × (new.ends.items ≡ old.ends.items ++ end ∷ [])
IsAsk may_read before after stem directory c asked old new false =
    ((turn : Turn) × (end : TaskEnd) × IsAskedTurn stem directory c asked turn × RanAtOnce may_read (length old.ends.items) before after turn end Cut × (new.rc ≡ 16) × (new.ends.items ≡ old.ends.items ++ end ∷ []))
    ⊎ ((after ≡ before) × (new.rc ≡ bit_or old.rc 32) × (new.ends.items ≡ old.ends.items))

-- The turns of these tasks ran so far, with these ends and this exit status; and whatever turns run after them, they all ran in one
-- row.
pub record HaveRun (may_read : ℕ → Type 0) (start now : World) (stem : List ℕ) (directory : Option (List ℕ)) (c : ConfigOf) (asked : List (Option (List ℕ))) (done : Done) : Type 0 where
  pub turns : List Turn
  pub are : AreTurnsOf stem directory c asked turns
  pub go_on : (more : List Turn) (last : List TaskEnd) (after : World) (exit : Exit) → Ran may_read (length done.ends.items) done.rc now more last after exit → Ran may_read 0 0 start (turns ++ more) (done.ends.items ++ last) after exit

-- the exit status, by how lines were told
abbrev pub told_code : {T : Type 0} → Result T Stop → ℕ
told_code (Ok x) = 0
told_code (Err MemoryStop) = 32
told_code (Err Sink) = 16
