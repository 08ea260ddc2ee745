use Rattle.cert_stream.proofs.LratGoingOn.{sayings_fed, sayings_parted}
use Rattle.cert_stream.proofs.lrat.laws.sayings_stay_before_more.Goals as goal

pub returns-clause-fed : goal.returns-clause-fed
returns-clause-fed c = sayings_fed

pub returns-clause-blank : goal.returns-clause-blank
returns-clause-blank c = sayings_parted
