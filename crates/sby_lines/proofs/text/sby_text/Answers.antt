use Rattle.std.proofs.Common.{rules, append_assoc}
use Rattle.sby_lines.specs.Texts.{sby_text}
use Rattle.sby_lines.proofs.text.sby_text.Goals as goal

pub returns : goal.returns
unfolding sby_text
returns c = search (rules, append_assoc)
