use Rattle.std.proofs.Common.{rules}
use Rattle.sby_lines.specs.Texts.{too_many_text}
use Rattle.sby_lines.proofs.text.too_many_text.Goals as goal

pub returns : goal.returns
unfolding too_many_text
returns c = search rules
