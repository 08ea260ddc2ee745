-- What is wrong with a line of a task file, kind by kind, by the lines before it and after it.
use Rattle.std.specs.Prelude.{◌≡◌, ◌⊎◌, ℕ, ◌<◌, ◌≤◌, true, false, List, [], ◌∷◌, ◌++◌, length, take, Contains}
use Rattle.sby_file.specs.Section.{name_of}
use Rattle.sby_file.specs.Prefix.{is_name, is_block_end, opens_block, prefix_length, mark_name}
use Rattle.sby_file.specs.Faults.{declared_names, has_tasks, line_names}
use Rattle.sby_file.specs.Lines.{IsHeader, IsTaskLine, IsScopedLine, LeaveBlockOpen, CloseBlock, SomeLine}
use Rattle.sby_file.specs.declared.section.Section.{Section}
use Rattle.sby_file.specs.declared.section.Section.TheVariants.{Nowhere, Tasks, Options, Engines, Script, Files, File, Unknown}
use Rattle.sby_file.specs.declared.line.Line.TheVariants.{NotText as NotTextLine, Content}
use Rattle.sby_file.specs.declared.walk.Placed.{Placed}
use Rattle.sby_file.specs.declared.fault.SbyFault.{SbyFault}
use Rattle.sby_file.specs.declared.fault.SbyKind.{SbyKind}
use Rattle.sby_file.specs.declared.fault.SbyKind.TheVariants.{NotText, StrayLine, UnknownSection, DoubleSection, DoubleTask, PrefixWithoutTasks, UnknownTask, DoubleFile, Limit}

-- the sections that stand at most once
abbrev pub StandsOnce : Section → Type 0
StandsOnce Tasks = Unit {0}
StandsOnce Options = Unit {0}
StandsOnce Engines = Unit {0}
StandsOnce Script = Unit {0}
StandsOnce Files = Unit {0}
StandsOnce Nowhere = ⊥
StandsOnce File = ⊥
StandsOnce Unknown = ⊥

-- the lines of `[tasks]`, which have at least a word each, by their first words
abbrev pub first_words : List (List ℕ) → List (List ℕ)
first_words [] = []
first_words (name ∷ tags) = name ∷ []

abbrev pub task_names : List Placed → List (List ℕ)
task_names [] = []
task_names (p ∷ ps) = first_words (line_names p.section p.line) ++ task_names ps

-- words before any section; a word in `[tasks]` that is no name; `--` where no block is open; a block that begins where one is open,
-- or that isn't closed in its section
abbrev pub IsStray : List Placed → Placed → List Placed → Type 0
IsStray before p after =
    ((word : List ℕ) × (words : List (List ℕ)) × (p.section ≡ Nowhere) × (p.line ≡ Content (word ∷ words)))
    ⊎ ((words : List (List ℕ)) × (word : List ℕ) × IsTaskLine words p × Contains words word × (is_name word ≡ false))
    ⊎ ((words : List (List ℕ)) × IsScopedLine words p × (is_block_end words ≡ true) × (LeaveBlockOpen before → ⊥))
    ⊎ ((words : List (List ℕ)) × IsScopedLine words p × (is_block_end words ≡ false) × (opens_block words ≡ true)
    × (LeaveBlockOpen before ⊎ (CloseBlock after → ⊥)))

-- a line with a prefix
abbrev pub HasPrefix : List (List ℕ) → Placed → Type 0
HasPrefix words p = IsScopedLine words p × (is_block_end words ≡ false) × (0 < prefix_length words)

-- what is wrong with line p of all lines, by its kind
abbrev pub IsFaulty : List Placed → List Placed → Placed → List Placed → SbyKind → Type 0
IsFaulty all before p after NotText = p.line ≡ NotTextLine
IsFaulty all before p after StrayLine = IsStray before p after
IsFaulty all before p after UnknownSection = (name : List (List ℕ)) × IsHeader Unknown name p
IsFaulty all before p after DoubleSection =
    (name : List (List ℕ)) × (section : Section) × IsHeader section name p × StandsOnce section
    × SomeLine (λ q. (other : List (List ℕ)) × IsHeader section other q) before
IsFaulty all before p after DoubleTask =
    (name : List ℕ) × (tags : List (List ℕ)) × IsTaskLine (name ∷ tags) p × SomeLine (λ q. (others : List (List ℕ)) × IsTaskLine (name ∷ others) q) before
IsFaulty all before p after PrefixWithoutTasks = (words : List (List ℕ)) × HasPrefix words p × (has_tasks all ≡ false)
IsFaulty all before p after UnknownTask =
    (words : List (List ℕ)) × (word : List ℕ) × HasPrefix words p × (has_tasks all ≡ true) × Contains (take (prefix_length words) words) word
    × (Contains (declared_names all) (mark_name word) → ⊥)
IsFaulty all before p after DoubleFile =
    (name : List (List ℕ)) × IsHeader File name p
    × SomeLine (λ q. (other : List (List ℕ)) × IsHeader File other q × (name_of other ≡ name_of name)) before
IsFaulty all before p after Limit =
    (name : List ℕ) × (tags : List (List ℕ)) × IsTaskLine (name ∷ tags) p × (1000 ≤ length (task_names before))

-- a line of these is faulty in this way
abbrev pub HasFault : List Placed → ℕ → SbyKind → Type 0
HasFault all number kind =
    (before : List Placed) × (p : Placed) × (after : List Placed) × (all ≡ before ++ p ∷ after) × (p.number ≡ number) × IsFaulty all before p after kind

-- the order of kinds within a line
abbrev pub rank : SbyKind → ℕ
rank NotText = 0
rank StrayLine = 1
rank UnknownSection = 2
rank DoubleSection = 3
rank DoubleTask = 4
rank PrefixWithoutTasks = 5
rank UnknownTask = 6
rank DoubleFile = 7
rank Limit = 8

-- the one fault is no later than the other: its line comes before, or it is the same line and its kind does
abbrev pub IsNoLater : SbyFault → SbyFault → Type 0
IsNoLater f g = (f.line < g.line) ⊎ ((f.line ≡ g.line) × (rank f.kind ≤ rank g.kind))
