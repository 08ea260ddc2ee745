use Rattle.frame_net.proofs.Running.{near, near_back}
use Rattle.frame_net.proofs.laws.frames_are_frames.Goals as goal

pub returns-clause-net : goal.returns-clause-net
returns-clause-net c = λ m n is net of cycle frame. near m n is net of cycle

pub returns-clause-model : goal.returns-clause-model
returns-clause-model c = λ m n is net of x frame. near_back m n is net of x
