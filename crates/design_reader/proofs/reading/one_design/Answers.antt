use Rattle.design_reader.proofs.Wholes.{one_read}
use Rattle.design_reader.proofs.reading.one_design.Goals as goal

pub returns : goal.returns
returns c = λ text d e r q. one_read text d e r q
