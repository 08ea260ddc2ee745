use Rattle.std.proofs.Common.{◌≡◌, ◌+◌, drop}
use Rattle.job_terms.specs.Decoding.{values_of}
use Rattle.net_jobs.specs.Decoding.{goals_until}
use Rattle.net_jobs.proofs.decoding.goals_until.Given as goal

abbrev pub invariant-loop-place : goal.invariant-loop-place
invariant-loop-place l = l.place + goals_until (values_of l.values) (drop l.place l.goals) ≡ goals_until (values_of l.values) l.goals
