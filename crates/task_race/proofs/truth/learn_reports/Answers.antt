use Rattle.std.proofs.Common.{List, subst, arith}
use Rattle.judge.specs.Finding.{FindingOf, IsTrueFinding}
use Rattle.race_core.specs.Collect.{CarriedIn}
use Rattle.race_core.specs.Report.{ReportOf}
use Rattle.race_core.specs.declared.end.JobEnd.{JobEnd}
use Rattle.task_race.proofs.LearnLemmas.{learned_all, learned_more}
use Rattle.task_race.proofs.truth.learn_reports.Goals as goal

pub loop-report-preserved : goal.loop-report-preserved
loop-report-preserved c =
    learned_more (λ (r : ReportOf FindingOf). (f : FindingOf) → CarriedIn r.ends f → IsTrueFinding f) c.args.reports.now c.loop-report.report-index c.report-item.result c.report-item.is c.loop-report.invariant
    (subst (λ (ends : List (JobEnd FindingOf)). (f : FindingOf) → CarriedIn ends f → IsTrueFinding f) c.ends.ensures c.learn_ends.ensures)

pub returns : goal.returns
returns c = λ r f among carried.
    learned_all (λ (r : ReportOf FindingOf). (f : FindingOf) → CarriedIn r.ends f → IsTrueFinding f) c.args.reports.now c.loop-report.report-index (omega arith) c.loop-report.invariant r among f carried
