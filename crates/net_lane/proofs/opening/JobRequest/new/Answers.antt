use Rattle.net_lane.proofs.Asking.{other_words}
use Rattle.net_lane.proofs.opening.JobRequest.new.Goals as goal

pub returns-in_default-clause-failed : goal.returns-in_default-clause-failed
returns-in_default-clause-failed g c = λ _. other_words _ _ c.in_default.ensures.none
