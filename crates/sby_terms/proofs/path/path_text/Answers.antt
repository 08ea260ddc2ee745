use Rattle.std.proofs.Common.{rules, append_assoc}
use Rattle.sby_terms.specs.Path.{path_text}
use Rattle.sby_terms.proofs.path.path_text.Goals as goal

pub returns : goal.returns
unfolding path_text
returns c = search (rules, append_assoc)
