use Rattle.std.proofs.Common.{rules, append_assoc}
use Rattle.sby_lines.specs.Texts.{stopped_text}
use Rattle.sby_lines.proofs.text.stopped_text.Goals as goal

pub returns : goal.returns
unfolding stopped_text
returns c = search (rules, append_assoc)
