use Rattle.reader_law.proofs.WireSteps.{wire_text_steps}
use Rattle.reader_law.proofs.laws.wire_texts_are_read.Goals as goal

pub returns : goal.returns
returns c = wire_text_steps
