use Rattle.std.proofs.Common.{◌≡◌, ◌++◌, drop}
use Rattle.std.specs.Prelude.{string_bytes}
use Rattle.std.specs.List.{flat_map}
use Rattle.btor_text.specs.Text.{line_text}
use Rattle.btor_text.proofs.writing.text_of_lines.Given as goal

abbrev pub invariant-loop-line : goal.invariant-loop-line
invariant-loop-line l = string_bytes l.text ++ flat_map (line_text l.constants) (drop l.line-index l.lines) ≡ flat_map (line_text l.constants) l.lines
