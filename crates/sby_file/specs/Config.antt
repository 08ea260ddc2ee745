-- What a task file holds.
use Rattle.std.specs.Prelude.{ℕ, cond, List, [], ◌∷◌, ◌++◌}
use Rattle.sby_file.specs.Section.{section_named, name_of, is_file}
use Rattle.sby_file.specs.declared.section.Section.{Section}
use Rattle.sby_file.specs.declared.section.Section.TheVariants.{Nowhere, Tasks, Options, Engines, Script, Files, File, Unknown}
use Rattle.sby_file.specs.declared.line.Line.{Line}
use Rattle.sby_file.specs.declared.line.Line.TheVariants.{NotText, Header, Content, Raw}
use Rattle.sby_file.specs.declared.walk.Placed.{Placed}
use Rattle.sby_file.specs.declared.config.Row.{Row}
use Rattle.sby_file.specs.declared.config.StoredFile.{StoredFile}

-- the tasks, the tags of each, the lines of the other sections, and the files that stand in the text
pub record ConfigOf : Type 0 where
  pub tasks : List (List ℕ)
  pub tags : List (List (List ℕ))
  pub rows : List Row
  pub files : List StoredFile

abbrev pub nothing : ConfigOf
nothing = record { tasks = []; tags = []; rows = []; files = [] }

-- a line of `[tasks]` adds a task and its tags
abbrev pub with_task : ConfigOf → List (List ℕ) → ConfigOf
with_task c [] = c
with_task c (name ∷ tags) = record c { tasks = c.tasks ++ name ∷ []; tags = c.tags ++ tags ∷ [] }

-- a line of options, engines, script or files adds its words
abbrev pub with_row : ConfigOf → ℕ → Section → List (List ℕ) → ConfigOf
with_row c number section [] = c
with_row c number section (word ∷ words) = record c { rows = c.rows ++ record { number = number; section = section; words = word ∷ words } ∷ [] }

abbrev pub with_content : ConfigOf → ℕ → Section → List (List ℕ) → ConfigOf
with_content c number Tasks words = with_task c words
with_content c number Options words = with_row c number Options words
with_content c number Engines words = with_row c number Engines words
with_content c number Script words = with_row c number Script words
with_content c number Files words = with_row c number Files words
with_content c number Nowhere words = c
with_content c number File words = c
with_content c number Unknown words = c

-- the text of a file: its lines up to the next header, each with a line feed
abbrev pub content_line : Line → List ℕ → List ℕ
content_line (Raw bytes) later = bytes ++ 10 ∷ later
content_line (Header name) later = []
content_line NotText later = later
content_line (Content words) later = later

abbrev pub content_of : List Placed → List ℕ
content_of [] = []
content_of (p ∷ ps) = content_line p.line (content_of ps)

-- a header `[file NAME]` adds the file of the lines after it
abbrev pub with_file : ConfigOf → List (List ℕ) → List Placed → ConfigOf
with_file c words later =
    cond (is_file (section_named words)) (record c { files = c.files ++ record { name = name_of words; bytes = content_of later } ∷ [] }) c

abbrev pub with_said : ConfigOf → ℕ → Section → Line → List Placed → ConfigOf
with_said c number section (Header name) later = with_file c name later
with_said c number section (Content words) later = with_content c number section words
with_said c number section NotText later = c
with_said c number section (Raw bytes) later = c

-- with what a line says; the later lines are those of its file
abbrev pub with_line : ConfigOf → Placed → List Placed → ConfigOf
with_line c p later = with_said c p.number p.section p.line later

-- with what all lines say
abbrev pub with_lines : ConfigOf → List Placed → ConfigOf
with_lines c [] = c
with_lines c (p ∷ ps) = with_lines (with_line c p ps) ps
