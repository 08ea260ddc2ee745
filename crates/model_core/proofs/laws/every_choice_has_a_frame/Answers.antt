use Rattle.model_core.proofs.Frames.{some_frame}
use Rattle.model_core.proofs.laws.every_choice_has_a_frame.Goals as goal

pub returns : goal.returns
returns c m is u = some_frame m is u
