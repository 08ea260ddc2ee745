use Rattle.cert_stream.proofs.GoingOn.{sayings_fed, sayings_parted}
use Rattle.cert_stream.proofs.laws.sayings_stay_before_more.Goals as goal

pub returns-clause-fed : goal.returns-clause-fed
returns-clause-fed c = sayings_fed

pub returns-clause-blank : goal.returns-clause-blank
returns-clause-blank c = sayings_parted
