use Rattle.std.proofs.Common.{rules, append_assoc}
use Rattle.sby_lines.specs.Texts.{settled_text}
use Rattle.sby_lines.proofs.text.settled_text.Goals as goal

pub returns : goal.returns
unfolding settled_text
returns c = search (rules, append_assoc)
