-- What a line is, by the section in which it stands.
use Rattle.std.specs.Prelude.{ℕ, Bool, cond, ◌&&◌, eqb, List, slice_index}
use Rattle.std.specs.Str.{is_utf8}
use Rattle.sby_file.specs.Text.{trimmed, uncommented, is_bracketed, bracket_inside, words_of}
use Rattle.sby_file.specs.declared.line.Line.{Line}
use Rattle.sby_file.specs.declared.line.Line.TheVariants.{NotText, Header, Content, Raw}

-- in a file a header begins with `[` in the line's first byte and ends with `]`; all else is the file's text
abbrev pub file_line_of : List ℕ → Line
file_line_of text =
    cond (is_bracketed (trimmed text) && eqb (slice_index text 0) 91) (Header (words_of (bracket_inside (trimmed text)))) (Raw text)

-- elsewhere comments are dropped first
abbrev pub plain_line_of : List ℕ → Line
plain_line_of text =
    let visible = trimmed (uncommented text) in
    cond (is_bracketed visible) (Header (words_of (bracket_inside visible))) (Content (words_of visible))

-- what the line of these bytes says, in a file or elsewhere
abbrev pub line_of : Bool → List ℕ → Line
line_of in_file bytes = cond (is_utf8 bytes) (cond in_file (file_line_of bytes) (plain_line_of bytes)) NotText
