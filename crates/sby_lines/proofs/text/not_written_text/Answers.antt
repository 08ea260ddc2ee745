use Rattle.std.proofs.Common.{rules, append_assoc}
use Rattle.sby_lines.specs.Texts.{not_written_text}
use Rattle.sby_lines.proofs.text.not_written_text.Goals as goal

pub returns : goal.returns
unfolding not_written_text
returns c = search (rules, append_assoc)
