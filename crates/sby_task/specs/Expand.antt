-- The tasks of a file.
use Rattle.std.specs.Prelude.{◌≡◌, ℕ, true, false, cond, eqb, List, [], ◌∷◌, length, Option, Some, None, Result, Ok, Err, unwrap_or, bytes_eq}
use Rattle.sby_terms.specs.declared.names.Mode.{Mode}
use Rattle.sby_terms.specs.declared.span.Span.{Span}
use Rattle.sby_terms.specs.declared.names.Status.{Status}
use Rattle.sby_terms.specs.declared.names.Status.TheVariants.{Pass}
use Rattle.sby_file.specs.Names.{has}
use Rattle.sby_file.specs.Config.{ConfigOf}
use Rattle.sby_task.specs.Scope.{kept}
use Rattle.sby_task.specs.Draft.{blank}
use Rattle.sby_task.specs.Files.{path_in, bytes_in}
use Rattle.sby_task.specs.Task.{row_after}
use Rattle.sby_task.specs.Cycles.{span_of}
use Rattle.sby_task.specs.Values.{mode_by}
use Rattle.sby_file.specs.declared.config.Row.{Row}
use Rattle.sby_file.specs.declared.config.StoredFile.{StoredFile}
use Rattle.sby_task.specs.declared.draft.Draft.{Draft}
use Rattle.sby_task.specs.declared.expansion.Task.{Task}
use Rattle.sby_task.specs.declared.expansion.AskedTask.{AskedTask}
use Rattle.sby_task.specs.declared.task_fault.TaskFault.{TaskFault}
use Rattle.sby_task.specs.declared.task_fault.TaskKind.{TaskKind}
use Rattle.sby_task.specs.declared.task_fault.TaskKind.TheVariants as kind

-- the kind at its line
abbrev pub at_number : {A : Type 0} → ℕ → Result A TaskKind → Result A TaskFault
at_number number (Ok a) = Ok a
at_number number (Err k) = Err (record { line = number; kind = k })

-- with one more line, where none before is at fault
abbrev pub step : List StoredFile → List Row → Result Draft TaskFault → Row → Result Draft TaskFault
step files all (Err f) row = Err f
step files all (Ok d) row = at_number row.number (row_after files all d row)

-- what the lines say, or the first of them at fault
abbrev pub drafted : List StoredFile → List Row → Result Draft TaskFault → List Row → Result Draft TaskFault
drafted files all r [] = r
drafted files all r (row ∷ rows) = drafted files all (step files all r row) rows

-- a design that stands in the file has its name as path
abbrev pub design_path : Option (List ℕ) → List Row → List ℕ → List ℕ
design_path (Some bytes) rows design = design
design_path None rows design = unwrap_or (path_in None rows design) design

-- PASS is expected where nothing is said
abbrev pub expected : Option (List Status) → List Status
expected None = Pass ∷ []
expected (Some statuses) = statuses

abbrev pub no_line : TaskKind → Result Task TaskFault
no_line k = Err (record { line = 0; kind = k })

abbrev pub with_span : List StoredFile → List Row → List ℕ → Draft → Mode → List ℕ → Option Span → Result Task TaskFault
with_span files rows name d mode design None = no_line kind.Slices
with_span files rows name d mode design (Some span) = Ok (record {
  name = name;
  mode = mode_by mode d.by;
  span = span;
  timeout = d.timeout;
  expect = expected d.expect;
  wait = unwrap_or d.wait false;
  engines = d.engines;
  design_path = design_path (bytes_in files design) rows design;
  design_bytes = bytes_in files design;
})

abbrev pub with_design : List StoredFile → List Row → List ℕ → Draft → Mode → Option (List ℕ) → Result Task TaskFault
with_design files rows name d mode None = no_line kind.Script
with_design files rows name d mode (Some design) = with_span files rows name d mode design (span_of mode d.skip d.depth d.stride)

abbrev pub with_mode : List StoredFile → List Row → List ℕ → Draft → Option Mode → Result Task TaskFault
with_mode files rows name d None = no_line kind.NoMode
with_mode files rows name d (Some mode) = cond (eqb (length d.engines) 0) (no_line kind.NoEngine) (with_design files rows name d mode d.script)

-- the task, where a mode, an engine and a script are given, and the cycles are such that a task may have
abbrev pub finished : List StoredFile → List Row → List ℕ → Draft → Result Task TaskFault
finished files rows name d = with_mode files rows name d d.mode

-- the tags of the task of this name
abbrev pub tags_of : List (List ℕ) → List (List (List ℕ)) → List ℕ → Option (List (List ℕ))
tags_of [] tags name = None
tags_of (task ∷ tasks) [] name = None
tags_of (task ∷ tasks) (own ∷ tags) name = cond (bytes_eq task name) (Some own) (tags_of tasks tags name)

-- the name that is asked for: the nameless task's is empty
abbrev pub asked_text : Option (List ℕ) → List ℕ
asked_text None = []
asked_text (Some name) = name

abbrev pub named : List ℕ → Option (List (List ℕ)) → Option (List (List ℕ))
named name None = None
named name (Some tags) = Some (name ∷ tags)

-- the name and the tags of the task that is asked for. Where the file has no tasks there is one, which has no name
abbrev pub names_asked : ConfigOf → Option (List ℕ) → Option (List (List ℕ))
names_asked c None = cond (eqb (length c.tasks) 0) (Some []) None
names_asked c (Some name) = named name (tags_of c.tasks c.tags name)

-- what the code keeps of it
abbrev pub IsAsked : AskedTask → List ℕ → Option (List (List ℕ)) → Type 0
IsAsked a name None = ⊥
IsAsked a name (Some names) = (a.name ≡ name) × ((other : List ℕ) → has a.names other ≡ has names other)

abbrev pub finish : List StoredFile → List Row → List ℕ → Result Draft TaskFault → Result Task TaskFault
finish files rows name (Err f) = Err f
finish files rows name (Ok d) = finished files rows name d

-- the task of these lines
abbrev pub task_of : List StoredFile → List Row → List ℕ → Result Task TaskFault
task_of files rows name = finish files rows name (drafted files rows (Ok blank) rows)

abbrev pub expanded : ConfigOf → List ℕ → Option (List (List ℕ)) → Result Task TaskFault
expanded c name None = no_line kind.UnknownTask
expanded c name (Some names) = task_of c.files (kept (has names) true c.rows) name

-- the task that is asked for, or the first fault: that it isn't there; of the first line at fault; or that something is missing
abbrev pub expansion : ConfigOf → Option (List ℕ) → Result Task TaskFault
expansion c asked = expanded c (asked_text asked) (names_asked c asked)

-- this is the task that is asked for
abbrev pub Expand : ConfigOf → Option (List ℕ) → Task → Type 0
Expand c asked task = expansion c asked ≡ Ok task
