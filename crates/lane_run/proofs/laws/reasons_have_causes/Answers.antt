use Rattle.lane_run.proofs.Reasons.{by_reading, called_by_look, skipped_by_look}
use Rattle.lane_run.proofs.laws.reasons_have_causes.Goals as goal

pub returns-clause-needless : goal.returns-clause-needless
returns-clause-needless g c = λ a f es h. called_by_look a f es h

pub returns-clause-skipped : goal.returns-clause-skipped
returns-clause-skipped g c = λ a f es h. skipped_by_look a f es h

pub returns-clause-limit : goal.returns-clause-limit
returns-clause-limit g c = λ a t es h. by_reading a t es h
