use Rattle.std.proofs.Common.{rules, append_assoc}
use Rattle.sby_lines.specs.Texts.{line_of}
use Rattle.sby_lines.proofs.text.line_of.Goals as goal

pub returns : goal.returns
unfolding line_of
returns c = search (rules, append_assoc)
