use Rattle.btor_witness.proofs.Exact.{fate_is, seen_is}
use Rattle.btor_witness.proofs.laws.bytes_are_read.Goals as goal

pub returns-clause-seen : goal.returns-clause-seen
returns-clause-seen c = seen_is

pub returns-clause-fate : goal.returns-clause-fate
returns-clause-fate c = fate_is
