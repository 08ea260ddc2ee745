use Rattle.cert_stream.proofs.FirstFaults.{fault_within, begins_before, begins_past, begins_all}
use Rattle.cert_stream.proofs.Beginnings.{reader}
use Rattle.cert_stream.proofs.laws.fault_is_first.Goals as goal

pub returns-clause-within : goal.returns-clause-within
returns-clause-within c = λ vars. fault_within (reader vars)

pub returns-clause-before : goal.returns-clause-before
returns-clause-before c = λ vars. begins_before (reader vars)

pub returns-clause-past : goal.returns-clause-past
returns-clause-past c = λ vars. begins_past (reader vars)

pub returns-clause-none : goal.returns-clause-none
returns-clause-none c = λ vars. begins_all (reader vars)
