use Rattle.std.proofs.Common.{ap}
use Rattle.std.specs.Prelude.{slice_get}
use Rattle.judge.specs.Jobs.{jobs_of}
use Rattle.sby_terms.specs.Problem.{ProblemOf}
use Rattle.judge_tests.proofs.judge_tests.invariant_of.Goals as goal

pub returns-in-Ok : goal.returns-in-Ok
returns-in-Ok c =
    let problem = rw (c.in-Ok.is, c.whole.ensures) at c.in_ok-problem.ensures.problem in
    (1, ap (λ (q : ProblemOf). slice_get (jobs_of q c.in-Ok.problem.design) 1) problem.0)
