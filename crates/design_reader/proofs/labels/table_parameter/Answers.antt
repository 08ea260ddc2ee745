use Rattle.design_reader.proofs.LabelLemmas.{parameter_is}
use Rattle.design_reader.proofs.labels.table_parameter.Goals as goal

pub returns : goal.returns
returns c = parameter_is c.known_parameter.result c.args.name.now c.known_parameter.ensures.some c.known_parameter.ensures.none
