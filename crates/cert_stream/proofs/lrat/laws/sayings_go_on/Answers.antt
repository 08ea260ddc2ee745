use Rattle.cert_stream.proofs.LratGoingOn.{sayings_more, sayings_end}
use Rattle.cert_stream.proofs.lrat.laws.sayings_go_on.Goals as goal

pub returns-clause-goes_on : goal.returns-clause-goes_on
returns-clause-goes_on c = sayings_more

pub returns-clause-ends : goal.returns-clause-ends
returns-clause-ends c = sayings_end
