use Rattle.net_pair.proofs.Fixing.{all_fixed, all_within}
use Rattle.net_pair.proofs.laws.states_and_inputs_fix_all.Goals as goal

pub returns-clause-fixed : goal.returns-clause-fixed
returns-clause-fixed c = λ n bits net few more given v lo hi. all_fixed n bits net few more given v lo hi

pub returns-clause-within : goal.returns-clause-within
returns-clause-within c = λ n bits net few. all_within n bits net few
