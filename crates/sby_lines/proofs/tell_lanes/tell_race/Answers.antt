use Rattle.std.proofs.lemmas.Result.{err_from_is_err_and}
use Rattle.design_core.proofs.Lists.{item_at}
use Rattle.sby_lines.proofs.LineLemmas.{race_end, race_next}
use Rattle.sby_lines.proofs.TellLemmas.{told_all, told_more, told_start, told_stopped}
use Rattle.sby_lines.proofs.tell_lanes.tell_race.Goals as goal

pub loop-report-init : goal.loop-report-init
loop-report-init g c = record { told = λ jobs has. told_start _ _ _ }

pub returns-in_err-tell_lane : goal.returns-in_err-tell_lane
returns-in_err-tell_lane g c = let p = err_from_is_err_and c.from_residual.result c.from_residual.ensures.1 in
    rw (p.1, p.2) (λ jobs has. told_stopped {T = Unit {0}} {U = Unit {0}} _ _ _ _ _ _ _ _ _ _ _
    (race_next c.args.heading.now.name.now c.args.slices jobs _ _ c.loop-report.report-index c.report-item.result (item_at c.args.reports.now c.loop-report.report-index c.report-item.result c.report-item.is c.loop-report-test.true))
    (c.loop-report.invariant.told jobs has) (c.in_err-tell_lane.ensures jobs has))

pub loop-report-preserved : goal.loop-report-preserved
loop-report-preserved g c = record {
  told = λ jobs has. told_more _ _ _ _ _ _ _ _ _ _
      (race_next c.args.heading.now.name.now c.args.slices jobs _ _ c.loop-report.report-index c.report-item.result (item_at c.args.reports.now c.loop-report.report-index c.report-item.result c.report-item.is c.loop-report-test.true))
      (c.loop-report.invariant.told jobs has) (c.in_ok-tell_lane.ensures jobs has);
}

pub returns : goal.returns
returns g c = λ jobs has. told_all _ _ _ _ _ _ (race_end c.args.heading.now.name.now c.args.slices jobs _ _ c.loop-report.report-index c.loop-report-test.false) (c.loop-report.invariant.told jobs has)
