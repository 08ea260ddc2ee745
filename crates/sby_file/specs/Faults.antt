-- What is wrong with a task file, line by line.
use Rattle.std.specs.Prelude.{ℕ, ◌^◌, Bool, true, false, cond, not, ◌&&◌, ◌||◌, eqb, leb, ltb, List, [], ◌∷◌, ◌++◌, length, take, map, Option, Some, None}
use Rattle.std.specs.List.{list_all}
use Rattle.sby_file.specs.Names.{has, with_name}
use Rattle.sby_file.specs.Section.{section_named, name_of, is_file}
use Rattle.sby_file.specs.Prefix.{is_name, prefix_length, are_known, is_block_end, opens_block}
use Rattle.sby_file.specs.Placed.{placed}
use Rattle.sby_file.specs.declared.section.Section.{Section}
use Rattle.sby_file.specs.declared.section.Section.TheVariants.{Nowhere, Tasks, Options, Engines, Script, Files, File, Unknown}
use Rattle.sby_file.specs.declared.headers.Headers.{Headers}
use Rattle.sby_file.specs.declared.line.Line.{Line}
use Rattle.sby_file.specs.declared.line.Line.TheVariants.{NotText, Header, Content, Raw}
use Rattle.sby_file.specs.declared.walk.Placed.{Placed}
use Rattle.sby_file.specs.declared.fault.SbyFault.{SbyFault}
use Rattle.sby_file.specs.declared.fault.SbyKind.{SbyKind}
use Rattle.sby_file.specs.declared.fault.SbyKind.TheVariants as kind

-- what the file declares anywhere: whether it has a section `[tasks]`, and which names stand in it
pub record Declared : Type 0 where
  pub has_tasks : Bool
  pub is_known : List ℕ → Bool

-- the names that a line declares
abbrev pub line_names : Section → Line → List (List ℕ)
line_names Tasks (Content words) = words
line_names Tasks NotText = []
line_names Tasks (Header name) = []
line_names Tasks (Raw bytes) = []
line_names Nowhere line = []
line_names Options line = []
line_names Engines line = []
line_names Script line = []
line_names Files line = []
line_names File line = []
line_names Unknown line = []

abbrev pub declared_names : List Placed → List (List ℕ)
declared_names [] = []
declared_names (p ∷ ps) = line_names p.section p.line ++ declared_names ps

abbrev pub is_tasks : Section → Bool
is_tasks Tasks = true
is_tasks Nowhere = false
is_tasks Options = false
is_tasks Engines = false
is_tasks Script = false
is_tasks Files = false
is_tasks File = false
is_tasks Unknown = false

-- a header `[tasks]`
abbrev pub starts_tasks : Line → Bool
starts_tasks (Header name) = is_tasks (section_named name)
starts_tasks NotText = false
starts_tasks (Content words) = false
starts_tasks (Raw bytes) = false

abbrev pub has_tasks : List Placed → Bool
has_tasks [] = false
has_tasks (p ∷ ps) = starts_tasks p.line || has_tasks ps

abbrev pub declared : List Placed → Declared
declared ps = record { has_tasks = has_tasks ps; is_known = has (declared_names ps) }

-- whether there was such a header, of those that stand once
abbrev pub had : Headers → Section → Bool
had h Tasks = h.tasks
had h Options = h.options
had h Engines = h.engines
had h Script = h.script
had h Files = h.files
had h Nowhere = false
had h File = false
had h Unknown = false

abbrev pub with_header : Headers → Section → Headers
with_header h Tasks = record h { tasks = true }
with_header h Options = record h { options = true }
with_header h Engines = record h { engines = true }
with_header h Script = record h { script = true }
with_header h Files = record h { files = true }
with_header h Nowhere = h
with_header h File = h
with_header h Unknown = h

-- what the lines so far have: sections, names of tasks and of files, and whether a block is open
pub record Seen : Type 0 where
  pub headers : Headers
  pub tasks : List (List ℕ)
  pub files : List (List ℕ)
  pub is_inside : Bool

abbrev pub nothing_seen : Seen
nothing_seen = record {
  headers = record { tasks = false; options = false; engines = false; script = false; files = false };
  tasks = [];
  files = [];
  is_inside = false;
}

-- the kind where the test holds
abbrev pub when : Bool → SbyKind → List SbyKind
when test k = cond test (k ∷ []) []

-- a header: its section is unknown; a second one
abbrev pub header_faults : Seen → Section → List ℕ → List SbyKind
header_faults seen Unknown name = kind.UnknownSection ∷ []
header_faults seen File name = when (has seen.files name) kind.DoubleFile
header_faults seen Nowhere name = []
header_faults seen Tasks name = when (had seen.headers Tasks) kind.DoubleSection
header_faults seen Options name = when (had seen.headers Options) kind.DoubleSection
header_faults seen Engines name = when (had seen.headers Engines) kind.DoubleSection
header_faults seen Script name = when (had seen.headers Script) kind.DoubleSection
header_faults seen Files name = when (had seen.headers Files) kind.DoubleSection

-- a line of `[tasks]`: a word that is no name; a second task of that name; more than 1,000
abbrev pub task_faults : Seen → List (List ℕ) → List SbyKind
task_faults seen [] = []
task_faults seen (name ∷ tags) =
    when (not (list_all is_name (name ∷ tags))) kind.StrayLine ++ (when (has seen.tasks name) kind.DoubleTask ++ when (leb 1000 (length seen.tasks)) kind.Limit)

-- a prefix: there are no tasks; a name that is unknown
abbrev pub prefix_faults : Declared → List (List ℕ) → List SbyKind
prefix_faults d words =
    cond (eqb (prefix_length words) 0) []
    (cond d.has_tasks (when (not (are_known d.is_known (take (prefix_length words) words))) kind.UnknownTask) (kind.PrefixWithoutTasks ∷ []))

-- a line `--` comes before the section's end
abbrev pub closes_before : Line → Bool → Bool
closes_before (Header name) later = false
closes_before (Content words) later = is_block_end words || later
closes_before NotText later = later
closes_before (Raw bytes) later = later

abbrev pub is_closed : List Placed → Bool
is_closed [] = false
is_closed (p ∷ ps) = closes_before p.line (is_closed ps)

-- a line of a section with prefixes: `--` without a block; a block in a block, or one that stays open; and its prefix
abbrev pub scoped_faults : Declared → Seen → List (List ℕ) → List Placed → List SbyKind
scoped_faults d seen words later =
    cond (is_block_end words) (when (not seen.is_inside) kind.StrayLine)
    (when (opens_block words && (seen.is_inside || not (is_closed later))) kind.StrayLine ++ prefix_faults d words)

-- words before any section
abbrev pub stray : List (List ℕ) → List SbyKind
stray [] = []
stray (word ∷ words) = kind.StrayLine ∷ []

abbrev pub content_faults : Declared → Seen → Section → List (List ℕ) → List Placed → List SbyKind
content_faults d seen Nowhere words later = stray words
content_faults d seen Tasks words later = task_faults seen words
content_faults d seen Options words later = scoped_faults d seen words later
content_faults d seen Engines words later = scoped_faults d seen words later
content_faults d seen Script words later = scoped_faults d seen words later
content_faults d seen Files words later = scoped_faults d seen words later
content_faults d seen File words later = []
content_faults d seen Unknown words later = []

-- the faults of a line, in order, by what the file declares, what the lines before have, and the later lines
abbrev pub line_faults : Declared → Seen → Section → Line → List Placed → List SbyKind
line_faults d seen section NotText later = kind.NotText ∷ []
line_faults d seen section (Header name) later = header_faults seen (section_named name) (name_of name)
line_faults d seen section (Content words) later = content_faults d seen section words later
line_faults d seen section (Raw bytes) later = []

-- what the lines so far have, with one more
abbrev pub seen_header : Seen → Section → List ℕ → Seen
seen_header seen section name =
    record seen { headers = with_header seen.headers section; files = cond (is_file section) (with_name seen.files name) seen.files; is_inside = false }

abbrev pub seen_task : Seen → List (List ℕ) → Seen
seen_task seen [] = seen
seen_task seen (name ∷ tags) = record seen { tasks = seen.tasks ++ name ∷ [] }

abbrev pub seen_scoped : Seen → List (List ℕ) → Seen
seen_scoped seen words = record seen { is_inside = not (is_block_end words) && (seen.is_inside || opens_block words) }

abbrev pub seen_content : Seen → Section → List (List ℕ) → Seen
seen_content seen Tasks words = seen_task seen words
seen_content seen Options words = seen_scoped seen words
seen_content seen Engines words = seen_scoped seen words
seen_content seen Script words = seen_scoped seen words
seen_content seen Files words = seen_scoped seen words
seen_content seen Nowhere words = seen
seen_content seen File words = seen
seen_content seen Unknown words = seen

abbrev pub seen_after : Seen → Section → Line → Seen
seen_after seen section NotText = seen
seen_after seen section (Header name) = seen_header seen (section_named name) (name_of name)
seen_after seen section (Content words) = seen_content seen section words
seen_after seen section (Raw bytes) = seen

abbrev pub at_line : ℕ → List SbyKind → List SbyFault
at_line number kinds = map (λ k. record { line = number; kind = k }) kinds

-- the faults of all lines, in file order
abbrev pub faults_from : Declared → Seen → List Placed → List SbyFault
faults_from d seen [] = []
faults_from d seen (p ∷ ps) = at_line p.number (line_faults d seen p.section p.line ps) ++ faults_from d (seen_after seen p.section p.line) ps

-- the faults of a text's lines
abbrev pub lines_faults : List ℕ → List SbyFault
lines_faults bytes = faults_from (declared (placed bytes)) nothing_seen (placed bytes)

-- the faults of a text: that it has more than 2^24 bytes, whatever they are, or else those of its lines
abbrev pub faults_of : List ℕ → List SbyFault
faults_of bytes = cond (ltb (2 ^ 24) (length bytes)) (at_line 0 (kind.Limit ∷ [])) (lines_faults bytes)

-- the first of a list
abbrev pub first : {A : Type 0} → List A → Option A
first [] = None
first (x ∷ xs) = Some x
