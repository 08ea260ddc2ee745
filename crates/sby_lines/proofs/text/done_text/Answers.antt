use Rattle.std.proofs.Common.{rules, append_assoc}
use Rattle.sby_lines.specs.Texts.{done_text}
use Rattle.sby_lines.proofs.text.done_text.Goals as goal

pub returns : goal.returns
unfolding done_text
returns c = search (rules, append_assoc)
