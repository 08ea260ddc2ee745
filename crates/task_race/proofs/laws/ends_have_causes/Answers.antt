use Rattle.task_race.proofs.EndLemmas.{back_of, counts_of_lane, end_cause}
use Rattle.race_core.specs.Consistent.{end_at}
use Rattle.std.proofs.Common.{refl}
use Rattle.task_race.proofs.laws.ends_have_causes.Goals as goal

pub returns : goal.returns
returns g c = λ racing pool before now start reports ran lane r at.
    let may = g.C.Clock.may_read c.args.clock.now in
    let back = back_of racing pool may before now start reports ran lane r at in (
      back.0.counts,
      counts_of_lane racing pool may before now start reports ran lane r back.0 at back.1,
      λ place lt. end_cause racing pool may before now start reports ran lane place r back.0 at back.1 lt (end_at r place) refl,
    )
