-- What is wrong with a line that is kept for a task, kind by kind, by the lines kept before it; what is missing from all of them; and
-- which of the faults is the first.
use Rattle.std.specs.Prelude.{◌≡◌, ◌≢◌, ◌⊎◌, ℕ, ◌<◌, ◌≤◌, Bool, false, List, [], ◌∷◌, ◌++◌, length, Option, Some, None, Contains, codes}
use Rattle.sby_terms.specs.declared.names.Mode.{Mode}
use Rattle.sby_terms.specs.declared.names.Status.{Status}
use Rattle.sby_terms.specs.declared.span.Span.{Span}
use Rattle.sby_terms.specs.Address.{IsAddress}
use Rattle.sby_task.specs.Values.{by_of, mode_of, number_of, count_of, statuses_of, switch_of}
use Rattle.sby_task.specs.Said.{IsOption, IsUnset, IsSet, HasOption, SaysSpan, AreRefused, LacksMarks, engine_lines, script_lines, NoneStands, GivesPath}
use Rattle.sby_file.specs.declared.config.Row.{Row}
use Rattle.sby_file.specs.declared.config.StoredFile.{StoredFile}
use Rattle.sby_file.specs.declared.section.Section.TheVariants as section
use Rattle.sby_task.specs.declared.draft.By.{By}
use Rattle.sby_task.specs.declared.draft.OptionName.{OptionName}
use Rattle.sby_task.specs.declared.draft.OptionName.TheVariants as option
use Rattle.sby_task.specs.declared.task_fault.TaskFault.{TaskFault}
use Rattle.sby_task.specs.declared.task_fault.TaskKind.{TaskKind}
use Rattle.sby_task.specs.declared.task_fault.TaskKind.TheVariants as kind

-- the names of options
abbrev pub spelled : OptionName → List ℕ
spelled option.Mode = codes "mode"
spelled option.By = codes "by"
spelled option.Skip = codes "skip"
spelled option.Depth = codes "depth"
spelled option.Stride = codes "stride"
spelled option.Timeout = codes "timeout"
spelled option.Expect = codes "expect"
spelled option.Wait = codes "wait"
spelled option.Multiclock = codes "multiclock"
spelled option.Unknown = []

-- a line gives an option that there is this value
abbrev pub SetsOption : OptionName → List (List ℕ) → Row → Type 0
SetsOption o value row = (o ≢ option.Unknown) × IsOption (spelled o) value row

-- the values that an option may have
abbrev pub IsValue : OptionName → List (List ℕ) → Type 0
IsValue option.Mode value = (mode : Mode) × (mode_of value ≡ Some mode)
IsValue option.By value = (by : By) × (by_of value ≡ Some by)
IsValue option.Skip value = (n : ℕ) × (count_of 99999 value ≡ Some n)
IsValue option.Depth value = (n : ℕ) × (number_of 100000 value ≡ Some n)
IsValue option.Stride value = (n : ℕ) × (number_of 100000 value ≡ Some n)
IsValue option.Timeout value = (n : ℕ) × (number_of 1000000 value ≡ Some n)
IsValue option.Expect value = (statuses : List Status) × (statuses_of value ≡ Some statuses)
IsValue option.Wait value = (on : Bool) × (switch_of value ≡ Some on)
IsValue option.Multiclock value = switch_of value ≡ Some false
IsValue option.Unknown value = ⊥

-- the engines that are a program, and those that are left out
abbrev pub program_engines : List (List ℕ)
program_engines = codes "drup" ∷ codes "btor" ∷ codes "inv" ∷ codes "lrat" ∷ codes "proof" ∷ codes "proofb" ∷ []

abbrev pub left_out_engines : List (List ℕ)
left_out_engines = codes "smtbmc" ∷ codes "abc" ∷ codes "aiger" ∷ codes "itp" ∷ codes "none" ∷ []

-- what may stand after `sat`
abbrev pub IsSatValue : List (List ℕ) → Type 0
IsSatValue value = (value ≡ []) ⊎ ((words : List (List ℕ)) × (n : ℕ) × (value ≡ codes "--conflicts" ∷ words) × (number_of 1000000000 words ≡ Some n))

-- what may stand after `net`: an address, and after it what may stand after `sat`
abbrev pub IsNetValue : List (List ℕ) → Type 0
IsNetValue value = (address : List ℕ) × (budget : List (List ℕ)) × (value ≡ address ∷ budget) × IsAddress address × IsSatValue budget

-- a line of this engine
abbrev pub IsEngine : List ℕ → List (List ℕ) → Row → Type 0
IsEngine name arguments row = (row.section ≡ section.Engines) × (row.words ≡ name ∷ arguments)

-- a line of this engine with other words after its name than may stand there
abbrev pub HasOther : List ℕ → (List (List ℕ) → Type 0) → Row → Type 0
HasOther name May row = (value : List (List ℕ)) × IsEngine name value row × (May value → ⊥)

-- a line of the script that reads this design
abbrev pub ReadsDesign : List ℕ → Row → Type 0
ReadsDesign name row = (row.section ≡ section.Script) × (row.words ≡ codes "read_rtlil" ∷ name ∷ [])

-- no line gives the name a path
abbrev pub NoneGives : List Row → List ℕ → Type 0
NoneGives rows name = (row : Row) (path : List ℕ) → Contains rows row → GivesPath name path row → ⊥

-- `by` is set, and no line of all gives the mode prove
abbrev pub StandsAlone : List Row → Row → Type 0
StandsAlone all row =
    (value : List (List ℕ)) × SetsOption option.By value row × ((line : Row) → Contains all line → IsOption (codes "mode") (codes "prove" ∷ []) line → ⊥)

-- an option has another value; `by` stands in another mode than prove; `sat` or `net` has other words after it; an engine that is a program
-- has none; a line of `[files]` has more than two words
abbrev pub HasBadValue : List Row → Row → Type 0
HasBadValue all row =
    (((o : OptionName) × (value : List (List ℕ)) × SetsOption o value row × (IsValue o value → ⊥)) ⊎ StandsAlone all row)
    ⊎ ((HasOther (codes "sat") IsSatValue row ⊎ HasOther (codes "net") IsNetValue row)
    ⊎ (((name : List ℕ) × IsEngine name [] row × Contains program_engines name) ⊎ ((row.section ≡ section.Files) × (2 < length row.words))))

-- what is wrong with a line of all that are kept, by its kind
abbrev pub IsFaulty : List StoredFile → List Row → List Row → Row → TaskKind → Type 0
IsFaulty files all before row kind.UnknownTask = ⊥
IsFaulty files all before row kind.Limit = (row.section ≡ section.Engines) × (64 ≤ length (engine_lines before))
IsFaulty files all before row kind.UnknownOption = (row.section ≡ section.Options) × ((o : OptionName) (value : List (List ℕ)) → SetsOption o value row → ⊥)
IsFaulty files all before row kind.DoubleOption = (o : OptionName) × (value : List (List ℕ)) × SetsOption o value row × HasOption (spelled o) before
IsFaulty files all before row kind.BadValue = HasBadValue all row
IsFaulty files all before row kind.NoMode = ⊥
IsFaulty files all before row kind.NoEngine = ⊥
IsFaulty files all before row kind.LeftOutEngine = (name : List ℕ) × (arguments : List (List ℕ)) × IsEngine name arguments row × Contains left_out_engines name
IsFaulty files all before row kind.UnknownEngine =
    (row.section ≡ section.Engines)
    × ((name : List ℕ) (arguments : List (List ℕ)) → row.words ≡ name ∷ arguments → Contains (codes "sat" ∷ codes "net" ∷ program_engines ++ left_out_engines) name → ⊥)
IsFaulty files all before row kind.Script =
    (row.section ≡ section.Script) × (((name : List ℕ) → ReadsDesign name row → ⊥) ⊎ (0 < length (script_lines before)))
IsFaulty files all before row kind.MissingFile = (name : List ℕ) × ReadsDesign name row × NoneStands files name × NoneGives all name
IsFaulty files all before row kind.Slices = ⊥
IsFaulty files all before row kind.Marks = (row.section ≡ section.Engines) × LacksMarks row.words

-- what all kept lines lack, by its kind: a mode, an engine, a script, or cycles that a task may have
abbrev pub IsMissing : List Row → TaskKind → Type 0
IsMissing rows kind.UnknownTask = ⊥
IsMissing rows kind.Limit = ⊥
IsMissing rows kind.UnknownOption = ⊥
IsMissing rows kind.DoubleOption = ⊥
IsMissing rows kind.BadValue = ⊥
IsMissing rows kind.NoMode = IsUnset (codes "mode") rows
IsMissing rows kind.NoEngine = engine_lines rows ≡ []
IsMissing rows kind.LeftOutEngine = ⊥
IsMissing rows kind.UnknownEngine = ⊥
IsMissing rows kind.Script = script_lines rows ≡ []
IsMissing rows kind.MissingFile = ⊥
IsMissing rows kind.Slices =
    (mode : Mode) × (span : Span) × IsSet (codes "mode") (λ value. mode_of value ≡ Some mode) rows × SaysSpan rows span × AreRefused rows mode span
IsMissing rows kind.Marks = ⊥

-- the order of kinds within a line
abbrev pub rank : TaskKind → ℕ
rank kind.UnknownTask = 0
rank kind.Limit = 1
rank kind.UnknownOption = 2
rank kind.DoubleOption = 3
rank kind.BadValue = 4
rank kind.NoMode = 5
rank kind.NoEngine = 6
rank kind.LeftOutEngine = 7
rank kind.UnknownEngine = 8
rank kind.Script = 9
rank kind.MissingFile = 10
rank kind.Slices = 11
rank kind.Marks = 12

-- no line of these, which are the first of all that are kept, is at fault
abbrev pub AreSound : List StoredFile → List Row → List Row → Type 0
AreSound files all rows = (before : List Row) (row : Row) (after : List Row) (k : TaskKind) → rows ≡ before ++ row ∷ after → IsFaulty files all before row k → ⊥

-- The fault is of the first line at fault, and its kind comes first there; or no line is at fault, and it is the first of what is
-- missing, at line 0.
pub data IsFirstFault (files : List StoredFile) (rows : List Row) (f : TaskFault) : Type 0 where
  of_line : (before : List Row) (row : Row) (after : List Row) → rows ≡ before ++ row ∷ after → AreSound files rows before → row.number ≡ f.line → IsFaulty files rows before row f.kind
      → ((k : TaskKind) → IsFaulty files rows before row k → rank f.kind ≤ rank k) → IsFirstFault files rows f
  of_no_line : AreSound files rows rows → f.line ≡ 0 → IsMissing rows f.kind → ((k : TaskKind) → IsMissing rows k → rank f.kind ≤ rank k) → IsFirstFault files rows f

-- the task that is asked for is there: one of this name, or the nameless one of a file without tasks
abbrev pub IsThere : List (List ℕ) → Option (List ℕ) → Type 0
IsThere tasks None = tasks ≡ []
IsThere tasks (Some name) = Contains tasks name
