use Rattle.unit_propagation.proofs.Entries.{sweeps_both}
use Rattle.unit_propagation.proofs.file.leave_pair.Goals as goal

pub returns-then-ne-clause-sweeps : goal.returns-then-ne-clause-sweeps
returns-then-ne-clause-sweeps c =
    let a = c.leave_list.ensures in
    let b = c.leave_list-then-ne.ensures in
    sweeps_both _ _ _ _ a.sweeps b.sweeps
