use Rattle.std.proofs.Common.{arith}
use Rattle.task_race.proofs.JobLemmas.{few_jobs}
use Rattle.task_race.proofs.prepare.job_count.Goals as goal

pub overflow_cast-result : goal.overflow_cast-result
overflow_cast-result c = omega (arith, few_jobs c.args.problem.now c.flat.ensures.problem, c.jobs.ensures)
