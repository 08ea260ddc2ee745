use Rattle.net_unroll.proofs.Forming.{formed_law}
use Rattle.net_unroll.proofs.laws.formulas_have_texts.Goals as goal

pub returns : goal.returns
returns c n a d net few = formed_law n a d net few
