use Rattle.std.proofs.Common.{refl}
use Rattle.sby_top.proofs.host.Host.prepare_turn.Goals as goal

pub returns-clause-at : goal.returns-clause-at
returns-clause-at g c = λ pool is. (c.prepare_stage-stage.result, refl, c.prepare_stage-stage.ensures.at pool is)
