use Rattle.std.proofs.Common.{rules, append_assoc}
use Rattle.sby_lines.specs.Texts.{broken_text}
use Rattle.sby_lines.proofs.text.broken_text.Goals as goal

pub returns : goal.returns
unfolding broken_text
returns c = search (rules, append_assoc)
