use Rattle.std.proofs.Common.{refl}
use Rattle.race_core.specs.Consistent.{end_at}
use Rattle.task_race.specs.Ran.{name_in}
use Rattle.task_race.proofs.EndLemmas.{back_of, end_cause}
use Rattle.task_race.proofs.FateLemmas.{end_of_fate}
use Rattle.task_race.proofs.laws.streams_give_their_fates.Goals as goal

pub returns : goal.returns
returns g c = λ racing pool before now start reports ran lane r at place script file fate lt serving script_is none is_file is_fate.
    let back = back_of racing pool (g.C.Clock.may_read c.args.clock.now) before now start reports ran lane r at in
    end_of_fate racing (g.C.Clock.may_read c.args.clock.now) before.scripts back.0.counts start lane (name_in racing place) script file fate serving script_is none is_file ran.is_problem is_fate (end_at r place)
    (end_cause racing pool (g.C.Clock.may_read c.args.clock.now) before now start reports ran lane place r back.0 at back.1 lt (end_at r place) refl)
