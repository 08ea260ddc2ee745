use Rattle.design_reader.proofs.Wholes.{never_both}
use Rattle.design_reader.proofs.reading.read_or_refused.Goals as goal

pub returns : goal.returns
returns c = λ text d byte kind r f. never_both text d byte kind r f
