use Rattle.sby_top.specs.Task.{problem_of, task_seen}
use Rattle.sby_top.proofs.serve.problem_of.Goals as goal

pub returns-in-Ok-Err-clause-err : goal.returns-in-Ok-Err-clause-err
returns-in-Ok-Err-clause-err c = c.refusal.ensures.refuses (problem_of (task_seen c.args.task.now) c.args.text.items) (rw c.in-Ok-Err.field-0-is at c.in-Ok-Err.ensures.problem)
