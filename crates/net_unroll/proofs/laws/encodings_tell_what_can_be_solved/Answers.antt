use Rattle.net_unroll.proofs.Deciding.{solvable_law}
use Rattle.net_unroll.proofs.laws.encodings_tell_what_can_be_solved.Goals as goal

pub returns : goal.returns
returns c n a k net few = solvable_law n a k net few
