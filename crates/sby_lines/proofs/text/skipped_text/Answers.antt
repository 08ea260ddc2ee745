use Rattle.std.proofs.Common.{rules, append_assoc}
use Rattle.sby_lines.specs.Texts.{skipped_text}
use Rattle.sby_lines.proofs.text.skipped_text.Goals as goal

pub returns : goal.returns
unfolding skipped_text
returns c = search (rules, append_assoc)
