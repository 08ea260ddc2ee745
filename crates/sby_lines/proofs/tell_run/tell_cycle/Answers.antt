use Rattle.sby_lines.proofs.BrokenLemmas.{cycle_begins}
use Rattle.sby_lines.proofs.TellLemmas.{tells_nothing}
use Rattle.sby_lines.proofs.tell_run.tell_cycle.Goals as goal

pub returns-in-Err : goal.returns-in-Err
returns-in-Err g c = λ cycle lines at are. tells_nothing {T = Unit {0}} _ _ lines (cycle_begins c.args.flat.now c.args.number cycle.wires lines are)
