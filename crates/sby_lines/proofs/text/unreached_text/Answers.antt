use Rattle.std.proofs.Common.{rules}
use Rattle.sby_lines.specs.Texts.{unreached_text}
use Rattle.sby_lines.proofs.text.unreached_text.Goals as goal

pub returns : goal.returns
unfolding unreached_text
returns c = search rules
