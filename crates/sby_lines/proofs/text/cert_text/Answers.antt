use Rattle.std.proofs.Common.{rules, append_assoc}
use Rattle.sby_lines.specs.Texts.{cert_text}
use Rattle.sby_lines.proofs.text.cert_text.Goals as goal

pub returns : goal.returns
unfolding cert_text
returns c = search (rules, append_assoc)
