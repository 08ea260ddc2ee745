use Rattle.std.proofs.Common.{◌≡◌, ℕ, ◌<◌, Some, slice_get}
use Rattle.judge.specs.Jobs.{jobs_of}
use Rattle.task_race.proofs.lanes.is_job.Given as goal

abbrev pub invariant-loop-place : goal.invariant-loop-place
invariant-loop-place l = (k : ℕ) → k < l.place → slice_get (jobs_of l.problem.problem l.problem.design) k ≡ Some l.job → ⊥
