use Rattle.std.proofs.Common.{subst}
use Rattle.cert_judge.specs.declared.stream.Kind.{Kind}
use Rattle.sby_terms.specs.declared.names.JobName.{JobName}
use Rattle.judge.proofs.Joining.{inv_served, told_served}
use Rattle.judge.proofs.judging.Judge.new.Goals as goal
use Rattle.judge.specs.Fates.{Serves}
use Rattle.judge.specs.Problem.{IsJob}

pub new-requires-clause-job : goal.new-requires-clause-job
new-requires-clause-job c = (c.requires.job, told_served c.in-Certificate.kind c.args.job (subst (λ (k : Kind). Serves k c.args.job) c.in-Certificate.is c.requires.serves))

pub new-requires-in-Invariant-clause-job : goal.new-requires-in-Invariant-clause-job
new-requires-in-Invariant-clause-job c = subst (λ (j : JobName). IsJob c.args.problem.now j) (inv_served c.args.job (subst (λ (k : Kind). Serves k c.args.job) c.in-Invariant.is c.requires.serves)) c.requires.job
