use Rattle.btor_witness.proofs.Exact.{one_seen}
use Rattle.btor_witness.proofs.laws.bytes_come_to_one.Goals as goal

pub returns : goal.returns
returns c = one_seen
