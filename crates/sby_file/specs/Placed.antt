-- The lines of a text in their places.
use Rattle.std.specs.Prelude.{ℕ, ◌+◌, List, [], ◌∷◌}
use Rattle.sby_file.specs.Text.{lines_of}
use Rattle.sby_file.specs.Section.{section_named, is_file}
use Rattle.sby_file.specs.Line.{line_of}
use Rattle.sby_file.specs.declared.section.Section.{Section}
use Rattle.sby_file.specs.declared.section.Section.TheVariants.{Nowhere}
use Rattle.sby_file.specs.declared.line.Line.{Line}
use Rattle.sby_file.specs.declared.line.Line.TheVariants.{NotText, Header, Content, Raw}
use Rattle.sby_file.specs.declared.walk.Placed.{Placed}

-- the section after a line: a header starts one
abbrev pub section_after : Section → Line → Section
section_after section (Header name) = section_named name
section_after section NotText = section
section_after section (Content words) = section
section_after section (Raw bytes) = section

-- lines after a line of this number, from this section on: each has its number and the section in which it stands
abbrev pub placed_from : Section → ℕ → List (List ℕ) → List Placed
placed_from section number [] = []
placed_from section number (text ∷ texts) =
    record { number = number + 1; section = section; line = line_of (is_file section) text }
    ∷ placed_from (section_after section (line_of (is_file section) text)) (number + 1) texts

-- the lines of a text
abbrev pub placed : List ℕ → List Placed
placed bytes = placed_from Nowhere 0 (lines_of bytes)
