-- What the lines that are kept for a task say of it.
use Rattle.std.specs.Prelude.{◌≡◌, ◌≢◌, ◌⊎◌, ℕ, ◌<◌, ◌≤◌, codes, Bool, true, false, List, [], ◌∷◌, ◌++◌, map, Option, Some, None, Contains}
use Rattle.std.specs.List.{filter}
use Rattle.sby_terms.specs.Span.{slices_of}
use Rattle.sby_terms.specs.declared.names.Mode.{Mode}
use Rattle.sby_terms.specs.declared.names.Mode.TheVariants.{Bmc}
use Rattle.sby_terms.specs.declared.span.Span.{Span}
use Rattle.sby_file.specs.Names.{has}
use Rattle.sby_task.specs.Marks.{HasMarks}
use Rattle.sby_task.specs.Values.{by_of, count_of, mode_by, mode_of, number_of}
use Rattle.sby_task.specs.Paths.{IsLastPart}
use Rattle.sby_file.specs.Config.{ConfigOf}
use Rattle.sby_task.specs.Scope.{kept}
use Rattle.sby_task.specs.Expand.{names_asked}
use Rattle.sby_file.specs.declared.config.Row.{Row}
use Rattle.sby_file.specs.declared.config.StoredFile.{StoredFile}
use Rattle.sby_task.specs.declared.draft.By.{By}
use Rattle.sby_task.specs.declared.expansion.Task.{Task}
use Rattle.sby_file.specs.declared.section.Section.{Section}
use Rattle.sby_file.specs.declared.section.Section.TheVariants.{Nowhere, Tasks, Options, Engines, Script, Files, File, Unknown}

-- the lines that are kept for the task that is asked for
abbrev pub AreKept : ConfigOf → Option (List ℕ) → List Row → Type 0
AreKept c asked rows = (names : List (List ℕ)) × (names_asked c asked ≡ Some names) × (rows ≡ kept (has names) true c.rows)

-- a line of `[options]` gives the option of this name this value
abbrev pub IsOption : List ℕ → List (List ℕ) → Row → Type 0
IsOption name value row = (row.section ≡ Options) × (row.words ≡ name ∷ value)

-- no line sets the option of this name
abbrev pub IsUnset : List ℕ → List Row → Type 0
IsUnset name rows = (row : Row) (value : List (List ℕ)) → Contains rows row → IsOption name value row → ⊥

-- one line sets the option of this name, to such a value
abbrev pub IsSet : List ℕ → (List (List ℕ) → Type 0) → List Row → Type 0
IsSet name Is rows =
    (before : List Row) × (row : Row) × (after : List Row) × (value : List (List ℕ)) × (rows ≡ before ++ row ∷ after) × IsOption name value row × IsUnset name before × IsUnset name after
    × Is value

-- some line sets the option of this name
abbrev pub HasOption : List ℕ → List Row → Type 0
HasOption name rows = (row : Row) × (value : List (List ℕ)) × Contains rows row × IsOption name value row

-- The mode that the options give. What is to be shown in prove is shown by induction, unless `by` says that it is by an invariant.
pub record SaysMode (rows : List Row) (mode : Mode) : Type 0 where
  pub said : Mode
  pub by : Option By
  pub is_said : IsSet (codes "mode") (λ value. mode_of value ≡ Some said) rows
  pub is_by : ((b : By) × (by ≡ Some b) × IsSet (codes "by") (λ value. by_of value ≡ Some b) rows) ⊎ (IsUnset (codes "by") rows × (by ≡ None))
  pub is : mode ≡ mode_by said by

-- the cycles that the options give: none is skipped, the depth is 20, and there is no stride where nothing is said
pub record SaysSpan (rows : List Row) (span : Span) : Type 0 where
  pub skip : IsSet (codes "skip") (λ value. count_of 99999 value ≡ Some span.skip) rows ⊎ (IsUnset (codes "skip") rows × (span.skip ≡ 0))
  pub depth : IsSet (codes "depth") (λ value. number_of 100000 value ≡ Some span.depth) rows ⊎ (IsUnset (codes "depth") rows × (span.depth ≡ 20))
  pub stride :
      ((n : ℕ) × (span.stride ≡ Some n) × IsSet (codes "stride") (λ value. number_of 100000 value ≡ Some n) rows) ⊎ (IsUnset (codes "stride") rows × (span.stride ≡ None))

-- no task has such cycles: skip or stride stands in another mode than bmc, no cycle is left, or there are more than 1,000 slices
abbrev pub AreRefused : List Row → Mode → Span → Type 0
AreRefused rows mode span = ((mode ≢ Bmc) × (HasOption (codes "skip") rows ⊎ HasOption (codes "stride") rows)) ⊎ ((span.depth ≤ span.skip) ⊎ (1000 < slices_of span))

-- an engine line whose program writes a proof file, and whose words don't have both marks exactly once
abbrev pub LacksMarks : List (List ℕ) → Type 0
LacksMarks words =
    (program : List ℕ) × (arguments : List (List ℕ)) × ((words ≡ codes "proof" ∷ program ∷ arguments) ⊎ (words ≡ codes "proofb" ∷ program ∷ arguments)) × (HasMarks (program ∷ arguments) → ⊥)

abbrev pub is_engines : Section → Bool
is_engines Engines = true
is_engines Nowhere = false
is_engines Tasks = false
is_engines Options = false
is_engines Script = false
is_engines Files = false
is_engines File = false
is_engines Unknown = false

-- the words of the lines of `[engines]`
abbrev pub engine_lines : List Row → List (List (List ℕ))
engine_lines rows = map (λ row. row.words) (filter (λ row. is_engines row.section) rows)

abbrev pub is_script : Section → Bool
is_script Script = true
is_script Nowhere = false
is_script Tasks = false
is_script Options = false
is_script Engines = false
is_script Files = false
is_script File = false
is_script Unknown = false

-- the words of the lines of `[script]`
abbrev pub script_lines : List Row → List (List (List ℕ))
script_lines rows = map (λ row. row.words) (filter (λ row. is_script row.section) rows)

-- no file of this name stands in the text
abbrev pub NoneStands : List StoredFile → List ℕ → Type 0
NoneStands files name = (file : StoredFile) → Contains files file → file.name ≡ name → ⊥

-- the first file of this name that stands in the text has these bytes
abbrev pub Stands : List StoredFile → List ℕ → List ℕ → Type 0
Stands files name bytes =
    (before : List StoredFile) × (file : StoredFile) × (after : List StoredFile) × (files ≡ before ++ file ∷ after) × (file.name ≡ name) × (file.bytes ≡ bytes) × NoneStands before name

-- a line of `[files]` gives the name a path: `path`, which ends in the name, or `name path`
abbrev pub GivesPath : List ℕ → List ℕ → Row → Type 0
GivesPath name path row = (row.section ≡ Files) × (((row.words ≡ path ∷ []) × IsLastPart path name) ⊎ (row.words ≡ name ∷ path ∷ []))

-- the last line that gives the name a path gives it this one
abbrev pub IsPath : List Row → List ℕ → List ℕ → Type 0
IsPath rows name path =
    (before : List Row) × (row : Row) × (after : List Row) × (rows ≡ before ++ row ∷ after) × GivesPath name path row
    × ((later : Row) (other : List ℕ) → Contains after later → GivesPath name other later → ⊥)

-- the task's design is that of this name: it stands in the text, or else a line gives its path
abbrev pub HasDesign : List StoredFile → List Row → List ℕ → Task → Type 0
HasDesign files rows name t =
    ((t.design_path ≡ name) × ((bytes : List ℕ) × (t.design_bytes ≡ Some bytes) × Stands files name bytes))
    ⊎ ((t.design_bytes ≡ None) × NoneStands files name × IsPath rows name t.design_path)
