use Rattle.sby_task.proofs.CyclesSaid.{not_refused}
use Rattle.sby_task.proofs.Refusals.{slices_refused}
use Rattle.sby_task.proofs.laws.slices_are_refused.Goals as goal

pub returns-clause-refused : goal.returns-clause-refused
returns-clause-refused c = slices_refused c.addresses_are_told.ensures

pub returns-clause-served : goal.returns-clause-served
returns-clause-served c = not_refused
