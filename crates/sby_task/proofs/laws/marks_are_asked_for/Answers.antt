use Rattle.sby_task.proofs.Refusals.{marks_refused, marks_served}
use Rattle.sby_task.proofs.laws.marks_are_asked_for.Goals as goal

pub returns-clause-refused : goal.returns-clause-refused
returns-clause-refused c = marks_refused c.addresses_are_told.ensures

pub returns-clause-served : goal.returns-clause-served
returns-clause-served c conf asked t rows h k = marks_served conf asked t rows h k c.addresses_are_told.ensures
