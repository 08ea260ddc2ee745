use Rattle.task_race.proofs.EndLemmas.{limited}
use Rattle.task_race.proofs.laws.lanes_stop_under_a_limit.Goals as goal

pub returns : goal.returns
returns g c = λ racing pool before now start reports ran r place t among is. limited racing (g.C.Clock.may_read c.args.clock.now) before now start reports ran r place t among is
