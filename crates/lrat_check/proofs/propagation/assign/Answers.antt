use Rattle.lrat_check.proofs.Trail.{Marks-push}
use Rattle.lrat_check.proofs.propagation.assign.Goals as goal

pub returns-clause-marks : goal.returns-clause-marks
returns-clause-marks c = rw (c.set_mark.ensures, c.in_ok-push.ensures.items) (Marks-push _ _ _ c.requires.marks c.requires.places)
