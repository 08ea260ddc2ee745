use Rattle.sby_top.proofs.TurnRunLemmas.{each_had}
use Rattle.sby_top.proofs.claims.each_end_is_of_a_task.Goals as goal

pub returns : goal.returns
returns g c = λ before after words done did place end at. each_had (g.C.Clock.may_read c.args.clock.now) before after words done place end did at
