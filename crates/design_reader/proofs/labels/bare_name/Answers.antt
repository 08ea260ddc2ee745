use lib.Utf8.{encode}
use Rattle.design_reader.proofs.WordLemmas.{bare_other}
use Rattle.design_reader.proofs.labels.bare_name.Goals as goal

pub returns-in_default : goal.returns-in_default
unfolding encode
returns-in_default c = bare_other c.args.name.now c.in_default.ensures.cases
