use Rattle.std.proofs.Common.{inl, rules}
use Rattle.net_lane.proofs.opening.open.Goals as goal

pub returns-in_err-asked-clause-failed : goal.returns-in_err-asked-clause-failed
returns-in_err-asked-clause-failed g c = λ e. let k = c.from_residual.ensures in inl (c.in_err-asked.ensures.failed (search rules))
