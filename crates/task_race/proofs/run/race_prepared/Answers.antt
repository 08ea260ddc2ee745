use Rattle.std.proofs.Common.{List, subst}
use Rattle.std.specs.Prelude.{Contains, Option}
use Rattle.jobs_pool.specs.Places.{PoolOf}
use Rattle.judge.specs.Finding.{FindingOf, IsTrueFinding}
use Rattle.race_core.specs.Collect.{CarriedIn}
use Rattle.race_core.specs.Report.{ReportOf}
use Rattle.task_race.specs.Bays.{counts_at}
use Rattle.task_race.specs.Prepared.{bays_in}
use Rattle.task_race.specs.Ran.{AreStarts, racing_seen}
use Rattle.task_race.proofs.RanLemmas.{have_raced}
use Rattle.task_race.proofs.run.race_prepared.Goals as goal

pub returns : goal.returns
returns g c = λ pool scripts prepared new.
    let count = λ (b : g.row.L.Denot). counts_at (g.L.Launch.start_faults b) (g.L.Launch.read_faults b) (g.L.Launch.hold_faults b) in
    let raced = c.race_lanes-bays.result in
    let ran = c.race_lanes-bays.ensures in
    have_raced count g.L.Launch.told (racing_seen c.args.racing.now) pool (g.C.Clock.may_read c.args.clock.now) scripts c.start_of-start.result
    (bays_in c.args.prepared) raced.bays.items raced.reports.items new ran.consistent prepared.many ran.bays c.flat.ensures.problem c.start_of-start.ensures raced.notes ran.done
    (subst (λ (reports : List (ReportOf FindingOf)). (r : ReportOf FindingOf) (f : FindingOf) → Contains reports r → CarriedIn r.ends f → IsTrueFinding f) c.deref.ensures.value c.learn_reports.ensures)
    ran.faults
    (λ i b d q was is told. subst (λ (p : Option PoolOf). AreStarts (racing_seen c.args.racing.now) p (g.L.Launch.told b) (g.L.Launch.told d) i q) prepared.places (ran.starts i b d q was is told))
    ran.stopped
