use Rattle.btor_witness.proofs.Exact.{end_kept}
use Rattle.btor_witness.proofs.laws.witnesses_are_kept.Goals as goal

pub returns : goal.returns
returns c = end_kept
