use Rattle.std.proofs.Common.{rules, append_assoc}
use Rattle.sby_lines.specs.Texts.{read_text}
use Rattle.sby_lines.proofs.text.read_text.Goals as goal

pub returns : goal.returns
unfolding read_text
returns c = search (rules, append_assoc)
