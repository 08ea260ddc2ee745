-- What the lines that hold for a task say of it.
use Rattle.std.specs.Prelude.{ℕ, Bool, cond, ◌||◌, leb, List, length, Option, Some, None, Result, Ok, Err, is_some}
use Rattle.sby_task.specs.Draft.{option_row, engine_row, script_row}
use Rattle.sby_task.specs.Files.{path_in, bytes_in}
use Rattle.sby_task.specs.Proved.{is_proved}
use Rattle.sby_file.specs.declared.section.Section.{Section}
use Rattle.sby_file.specs.declared.section.Section.TheVariants.{Nowhere, Tasks, Options, Engines, Script, Files, File, Unknown}
use Rattle.sby_file.specs.declared.config.Row.{Row}
use Rattle.sby_file.specs.declared.config.StoredFile.{StoredFile}
use Rattle.sby_task.specs.declared.draft.Draft.{Draft}
use Rattle.sby_task.specs.declared.task_fault.TaskKind.{TaskKind}
use Rattle.sby_task.specs.declared.task_fault.TaskKind.TheVariants as kind

-- a design of this name stands in the file, or a line names it
abbrev pub is_found : List StoredFile → List Row → List ℕ → Bool
is_found files rows name = is_some (bytes_in files name) || is_some (path_in None rows name)

abbrev pub seek : List StoredFile → List Row → Draft → Option (List ℕ) → Result Draft TaskKind
seek files rows d None = Ok d
seek files rows d (Some name) = cond (is_found files rows name) (Ok d) (Err kind.MissingFile)

abbrev pub found : List StoredFile → List Row → Result Draft TaskKind → Result Draft TaskKind
found files rows (Err k) = Err k
found files rows (Ok d) = seek files rows d d.script

-- the script's line, whose design must be there
abbrev pub script_after : List StoredFile → List Row → Draft → List (List ℕ) → Result Draft TaskKind
script_after files rows d words = found files rows (script_row d words)

abbrev pub section_after : List StoredFile → List Row → Draft → Section → List (List ℕ) → Result Draft TaskKind
section_after files rows d Options words = option_row (is_proved rows) d words
section_after files rows d Engines words = engine_row d words
section_after files rows d Script words = script_after files rows d words
section_after files rows d Files words = cond (leb (length words) 2) (Ok d) (Err kind.BadValue)
section_after files rows d Nowhere words = Ok d
section_after files rows d Tasks words = Ok d
section_after files rows d File words = Ok d
section_after files rows d Unknown words = Ok d

-- what a line says, or what is wrong with it
abbrev pub row_after : List StoredFile → List Row → Draft → Row → Result Draft TaskKind
row_after files rows d row = section_after files rows d row.section row.words
