use Rattle.model_core.proofs.Frames.{frames_same}
use Rattle.model_core.proofs.laws.one_frame.Goals as goal

pub returns : goal.returns
returns c m is u v fu fv h = frames_same m is u v fu fv h
