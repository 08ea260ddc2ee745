use Rattle.sby_task.proofs.TasksThere.{task_there, task_unknown}
use Rattle.sby_task.proofs.laws.other_tasks_are_unknown.Goals as goal

pub returns-clause-there : goal.returns-clause-there
returns-clause-there c = task_there

pub returns-clause-unknown : goal.returns-clause-unknown
returns-clause-unknown c = task_unknown
