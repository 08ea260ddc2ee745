use Rattle.design_reader.proofs.Continuing.{goes_on_behind}
use Rattle.design_reader.proofs.laws.each_reading_goes_on.Goals as goal

pub returns : goal.returns
returns c = goes_on_behind
