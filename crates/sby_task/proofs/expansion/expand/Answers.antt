use Rattle.std.proofs.Common.{refl}
use Rattle.std.specs.Option.{option_copied}
use Rattle.sby_task.specs.Expand.{names_asked}
use Rattle.sby_task.proofs.Served.{span_served, engines_served}
use Rattle.sby_task.proofs.Tasks.{asked_alike}
use Rattle.sby_task.proofs.expansion.expand.Goals as goal

pub returns-in_ok-task-in-Some-clause-task : goal.returns-in_ok-task-in-Some-clause-task
returns-in_ok-task-in-Some-clause-task c =
    let config = c.args.config.now in
    let asked = option_copied c.args.asked in
    asked_alike config asked c.in-Some.found (names_asked config asked) _ refl (rw c.in-Some.is at c.in_ok-asked_task.ensures) c.in_ok-task-in-Some.ensures

pub returns-in_ok-task-in-Some-clause-span : goal.returns-in_ok-task-in-Some-clause-span
returns-in_ok-task-in-Some-clause-span c =
    let config = c.args.config.now in
    let asked = option_copied c.args.asked in
    span_served config asked c.in_ok-task-in-Some.task
    (asked_alike config asked c.in-Some.found (names_asked config asked) _ refl (rw c.in-Some.is at c.in_ok-asked_task.ensures) c.in_ok-task-in-Some.ensures)

pub returns-in_ok-task-in-Some-clause-marks : goal.returns-in_ok-task-in-Some-clause-marks
returns-in_ok-task-in-Some-clause-marks c =
    let config = c.args.config.now in
    let asked = option_copied c.args.asked in
    engines_served config asked c.in_ok-task-in-Some.task
    (asked_alike config asked c.in-Some.found (names_asked config asked) _ refl (rw c.in-Some.is at c.in_ok-asked_task.ensures) c.in_ok-task-in-Some.ensures)
