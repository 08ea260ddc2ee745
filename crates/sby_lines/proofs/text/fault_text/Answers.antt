use Rattle.std.proofs.Common.{rules, append_assoc}
use Rattle.sby_lines.specs.Texts.{fault_text}
use Rattle.sby_lines.proofs.text.fault_text.Goals as goal

pub returns : goal.returns
unfolding fault_text
returns c = search (rules, append_assoc)
