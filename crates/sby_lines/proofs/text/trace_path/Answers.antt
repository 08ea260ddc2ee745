use Rattle.std.proofs.Common.{rules, append_assoc}
use Rattle.sby_lines.specs.Texts.{trace_path}
use Rattle.sby_lines.proofs.text.trace_path.Goals as goal

pub returns-in-Cover : goal.returns-in-Cover
unfolding trace_path
returns-in-Cover c = rw c.in-Cover.is (search (rules, append_assoc))
