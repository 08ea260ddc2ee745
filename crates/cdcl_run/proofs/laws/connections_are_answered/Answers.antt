use Rattle.cdcl_run.proofs.Connections.{all_answered, counted_back, listens_still, told_back}
use Rattle.cdcl_run.proofs.laws.connections_are_answered.Goals as goal

pub returns-clause-answered : goal.returns-clause-answered
returns-clause-answered c = all_answered

pub returns-clause-listens : goal.returns-clause-listens
returns-clause-listens c = listens_still

pub returns-clause-told : goal.returns-clause-told
returns-clause-told c = told_back

pub returns-clause-counted : goal.returns-clause-counted
returns-clause-counted c = counted_back
