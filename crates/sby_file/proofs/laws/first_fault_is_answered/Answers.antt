use Rattle.sby_file.proofs.FaultOrder.{first_comes}
use Rattle.sby_file.proofs.laws.first_fault_is_answered.Goals as goal

pub returns : goal.returns
returns c = first_comes
