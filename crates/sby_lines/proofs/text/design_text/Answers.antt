use Rattle.std.proofs.Common.{rules, append_assoc}
use Rattle.sby_lines.specs.Texts.{design_text}
use Rattle.sby_lines.proofs.text.design_text.Goals as goal

pub returns : goal.returns
unfolding design_text
returns c = search (rules, append_assoc)
