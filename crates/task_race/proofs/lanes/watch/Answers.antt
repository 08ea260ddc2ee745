use Rattle.std.proofs.Common.{subst}
use Rattle.judge.proofs.Joining.{told_served}
use Rattle.task_race.specs.Serving.{IsJudgeable}
use Rattle.task_race.specs.declared.evidence.Evidence.{Evidence}
use Rattle.task_race.proofs.lanes.watch.Goals as goal

pub new-requires-clause-serves : goal.new-requires-clause-serves
new-requires-clause-serves c = subst (λ (by : Evidence). IsJudgeable by c.args.job) c.in-Output.is c.requires.judgeable

pub new-requires-in-ProofFile-clause-job : goal.new-requires-in-ProofFile-clause-job
new-requires-in-ProofFile-clause-job c = (c.requires.job, told_served c.in-ProofFile.field-0 c.args.job (subst (λ (by : Evidence). IsJudgeable by c.args.job) c.in-ProofFile.is c.requires.judgeable))
