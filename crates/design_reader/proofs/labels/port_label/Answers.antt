use Rattle.design_reader.proofs.LabelLemmas.{port_is}
use Rattle.design_reader.proofs.labels.port_label.Goals as goal

pub returns : goal.returns
returns c = port_is c.known_port.result c.args.name.now c.known_port.ensures.some c.known_port.ensures.none
