use Rattle.std.proofs.Common.{rules, append_assoc}
use Rattle.sby_lines.specs.Texts.{lane_text}
use Rattle.sby_lines.proofs.text.lane_text.Goals as goal

pub returns : goal.returns
unfolding lane_text
returns c = search (rules, append_assoc)
