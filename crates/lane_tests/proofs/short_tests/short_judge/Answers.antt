use Rattle.std.proofs.Common.{ℕ, List, subst, sym}
use Rattle.judge.specs.Judging.{Took}
use Rattle.lane_tests.proofs.short_tests.short_judge.Goals as goal

pub returns-clause-took : goal.returns-clause-took
returns-clause-took c = record {
  is_job = c.requires.job;
  asked = c.in_ok-judge.ensures.asked;
  job_is = c.in_ok-judge.ensures.job;
  limit = c.in_ok-judge.ensures.most;
  took = subst (λ (bytes : List ℕ). Took c.in_ok-judge.judge bytes) (sym c.of.ensures) c.in_ok-judge.ensures.took;
}
