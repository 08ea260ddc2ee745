-- The tasks that words ask, each in its turn.
use Rattle.std.specs.Prelude.{◌≡◌, ◌⊎◌, ℕ, ◌*◌, ◌≤◌, false, List, [], ◌∷◌, map, Option, Some, None, option_map, Result, Ok, Err, string_bytes, Contains}
use Rattle.sby_file.specs.Config.{ConfigOf}
use Rattle.sby_task.specs.Expand.{expansion}
use Rattle.sby_file.specs.Faults.{faults_of, first}
use Rattle.sby_file.specs.Sby.{SbyText}
use Rattle.sby_task.specs.declared.expansion.Task.{Task as FileTask}
use Rattle.sby_file.specs.declared.fault.SbyFault.{SbyFault}
use Rattle.sby_task.specs.declared.task_fault.TaskFault.{TaskFault}
use Rattle.sby_lines.specs.declared.early.Early.{Early}
use Rattle.sby_lines.specs.declared.early.Early.TheVariants.{File, Sby, Task, Read, Design, TooMany, Streams as TooManyStreams, Memory}
use Rattle.sby_terms.specs.Span.{whole}
use Rattle.sby_terms.specs.declared.names.Status.TheVariants.{Pass}
use Rattle.sby_words.specs.Folders.{task_folder}
use Rattle.sby_words.specs.Requests.{JudgeRequest}
use Rattle.sby_top.specs.Served.{IsGot}
use Rattle.sby_top.specs.Task.{DesignAt, Given, IsAskable, Lanes, Stored, Streams, TaskOf, task_seen}
use Rattle.sby_top.specs.declared.turns.Turn.{Turn as KeptTurn}
use Rattle.sby_top.specs.declared.turns.Turn.TheVariants.{Refused as KeptRefused, Run as KeptRun}
use Rattle.sby_top.specs.World.{FilesOf, IsFailedAt}

-- What is run in its turn: a task; or, under this name, only a fault is told, by which a task or its file is refused.
pub data Turn : Type 0 where
  Refused : List ℕ → Early → Turn
  Run : TaskOf → Turn

-- what is kept of a turn
abbrev pub turn_seen : KeptTurn → Turn
turn_seen (KeptRefused name early) = Refused (string_bytes name) early
turn_seen (KeptRun task) = Run (task_seen task)

-- a task that is run has cycles which its mode may have
abbrev pub IsSound : Turn → Type 0
IsSound (Refused name early) = Unit {0}
IsSound (Run task) = IsAskable task

-- the task that `--judge` asks: PASS is expected, and its streams are stored
abbrev pub judge_task : JudgeRequest → TaskOf
judge_task j = record {
  request = record { name = j.folder; mode = j.mode; span = whole j.depth; expect = Pass ∷ []; limit = None };
  design = Stored j.design;
  wait = false;
  service = Streams j.streams;
}

-- a design that stands in the task file is given; else its path names it
abbrev pub design_at : List ℕ → Option (List ℕ) → DesignAt
design_at path None = Stored path
design_at path (Some bytes) = Given bytes

-- the task of a task file, with this work folder; its timeout is in seconds
abbrev pub file_task : List ℕ → FileTask → TaskOf
file_task folder t = record {
  request = record { name = folder; mode = t.mode; span = t.span; expect = t.expect; limit = option_map (λ seconds. seconds * 1000) t.timeout };
  design = design_at t.design_path t.design_bytes;
  wait = t.wait;
  service = Lanes t.engines;
}

-- the turn of a task by what its lines say; or memory ran out, which is told as such
abbrev pub IsTurnOf : List ℕ → Result FileTask TaskFault → Turn → Type 0
IsTurnOf name (Ok t) turn = (turn ≡ Run (file_task name t)) ⊎ (turn ≡ Refused name Memory)
IsTurnOf name (Err fault) turn = (turn ≡ Refused name (Task fault)) ⊎ (turn ≡ Refused name Memory)

-- the names under which tasks are told: a task of the file by its work folder, a name that isn't one of the file's by the stem
abbrev pub IsNameOf : List ℕ → Option (List ℕ) → ConfigOf → Option (List ℕ) → List ℕ → Type 0
IsNameOf stem directory c None name = name ≡ task_folder stem directory []
IsNameOf stem directory c (Some task) name =
    (Contains c.tasks task × (name ≡ task_folder stem directory task)) ⊎ ((Contains c.tasks task → ⊥) × (name ≡ task_folder stem directory []))

-- the turns of these tasks, in their order; where memory runs out for a name, the list stops short
abbrev pub AreTurnsOf : List ℕ → Option (List ℕ) → ConfigOf → List (Option (List ℕ)) → List Turn → Type 0
AreTurnsOf stem directory c [] turns = turns ≡ []
AreTurnsOf stem directory c (asked ∷ more) [] = ⊥
AreTurnsOf stem directory c (asked ∷ more) (turn ∷ turns) =
    ((name : List ℕ) × IsNameOf stem directory c asked name × IsTurnOf name (expansion c asked) turn) × AreTurnsOf stem directory c more turns

abbrev pub all_tasks : List (List ℕ) → List (Option (List ℕ))
all_tasks [] = None ∷ []
all_tasks (name ∷ names) = map Some (name ∷ names)

-- the tasks that are run: those that are named, in the order named; else all of the file; in a file without tasks the nameless one
abbrev pub asked_tasks : List (List ℕ) → ConfigOf → List (Option (List ℕ))
asked_tasks [] c = all_tasks c.tasks
asked_tasks (name ∷ names) c = map Some (name ∷ names)

-- the turns that a task file's text gives: one fault where it isn't a task file, or memory runs out to read it; else its tasks'
abbrev pub AreTextTurns : List ℕ → Option (List ℕ) → List (List ℕ) → List ℕ → List Turn → Type 0
AreTextTurns stem directory names text turns =
    ((fault : SbyFault) × (first (faults_of text) ≡ Some fault) × (turns ≡ Refused (task_folder stem directory []) (Sby fault) ∷ []))
    ⊎ (turns ≡ Refused (task_folder stem directory []) Memory ∷ [])
    ⊎ ((c : ConfigOf) × SbyText text c × AreTurnsOf stem directory c (asked_tasks names c) turns)

-- the greatest size of a task file, in bytes: the reader refuses one more
abbrev pub most_task_file : ℕ
most_task_file = 16777216

-- The task file at this path was got, with this text; or the call failed, or memory ran out for it.
abbrev pub IsTextGot : FilesOf → FilesOf → List ℕ → Result (List ℕ) Early → Type 0
IsTextGot before now path (Ok text) = IsGot before.told path most_task_file text × (now ≡ before)
IsTextGot before now path (Err (File p)) = (string_bytes p ≡ path) × IsFailedAt before now path
IsTextGot before now path (Err Memory) = (before.faults ≤ now.faults) × (now.told ≡ before.told)
IsTextGot before now path (Err (Sby fault)) = ⊥
IsTextGot before now path (Err (Task fault)) = ⊥
IsTextGot before now path (Err (Read fault)) = ⊥
IsTextGot before now path (Err (Design fault)) = ⊥
IsTextGot before now path (Err (TooMany job)) = ⊥
IsTextGot before now path (Err TooManyStreams) = ⊥

-- the turns that a task file gives, or the one fault by which it can't be read
abbrev pub AreFileTurns : List ℕ → Option (List ℕ) → List (List ℕ) → Result (List ℕ) Early → List Turn → Type 0
AreFileTurns stem directory names (Ok text) turns = AreTextTurns stem directory names text turns
AreFileTurns stem directory names (Err early) turns = turns ≡ Refused (task_folder stem directory []) early ∷ []
