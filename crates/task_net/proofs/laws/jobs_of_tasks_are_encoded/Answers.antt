use Rattle.task_net.proofs.Encoded.{task-encoded}
use Rattle.task_net.proofs.laws.jobs_of_tasks_are_encoded.Goals as goal

pub returns : goal.returns
returns c m t job span is of isjob few = task-encoded m t job span is of isjob few
