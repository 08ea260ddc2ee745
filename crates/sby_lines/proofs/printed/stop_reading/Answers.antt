use Rattle.design_core.proofs.Lists.{item_at}
use Rattle.sby_lines.proofs.PrintedLemmas.{first_stop, none_more, none_stopped}
use Rattle.sby_lines.proofs.printed.stop_reading.Goals as goal

pub returns-in-Some-clause-some : goal.returns-in-Some-clause-some
returns-in-Some-clause-some c = first_stop c.args.reports.now c.args.answers.now c.loop-report.report-index c.report-item.result c.in-Some.reading c.requires.places c.loop-report.invariant
    (item_at c.args.reports.now c.loop-report.report-index c.report-item.result c.report-item.is c.loop-report-test.true) c.in-Some.ensures.some

pub loop-report-preserved : goal.loop-report-preserved
loop-report-preserved c = none_more c.args.reports.now c.args.answers.now c.loop-report.report-index c.report-item.result c.loop-report.invariant
    (item_at c.args.reports.now c.loop-report.report-index c.report-item.result c.report-item.is c.loop-report-test.true) c.in_default.ensures.none

pub returns-clause-none : goal.returns-clause-none
returns-clause-none c = none_stopped c.args.reports.now c.args.answers.now c.loop-report.report-index c.loop-report.invariant c.loop-report-test.false
