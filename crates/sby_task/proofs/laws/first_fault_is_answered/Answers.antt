use Rattle.sby_task.proofs.FirstFaults.{first_answered}
use Rattle.sby_task.proofs.laws.first_fault_is_answered.Goals as goal

pub returns : goal.returns
returns c conf asked fault rows h k = first_answered conf asked rows c.addresses_are_told.ensures fault h k
