use Rattle.std.proofs.lemmas.Result.{err_from_is_err_and}
use Rattle.sby_lines.proofs.TellLemmas.{tells_then, tells_stopped}
use Rattle.sby_lines.proofs.tell_task.tell_early.Goals as goal

pub returns-in_err-tell_fault : goal.returns-in_err-tell_fault
returns-in_err-tell_fault g c = let p = err_from_is_err_and c.from_residual.result c.from_residual.ensures.1 in
    rw (p.1, p.2) (tells_stopped {T = Unit {0}} _ _ _ _ _ _ _ c.in_err-tell_fault.ensures)

pub returns : goal.returns
returns g c = tells_then {T = Unit {0}} _ _ _ _ _ _ _ _ tt _ c.in_ok-tell_fault.ensures c.tell_done.ensures
