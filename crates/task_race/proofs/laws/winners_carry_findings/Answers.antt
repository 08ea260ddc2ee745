use Rattle.task_race.proofs.RanLemmas.{winners_find}
use Rattle.task_race.proofs.laws.winners_carry_findings.Goals as goal

pub returns : goal.returns
returns g c = λ racing pool before now start reports ran. winners_find racing (g.C.Clock.may_read c.args.clock.now) start ran.done.0 reports ran.done.1
