use Rattle.std.proofs.Common.{rules, append_assoc}
use Rattle.sby_lines.specs.Texts.{reached_text}
use Rattle.sby_lines.proofs.text.reached_text.Goals as goal

pub returns : goal.returns
unfolding reached_text
returns c = search (rules, append_assoc)
