use Rattle.design_core.proofs.Lists.{item_at}
use Rattle.sby_lines.proofs.PrintedLemmas.{if_none_weaker, if_some_weaker, is_printed, lane_within, none_printed, not_without}
use Rattle.sby_lines.proofs.printed.printed_finding.Goals as goal

pub returns-in-Some-clause-some : goal.returns-in-Some-clause-some
returns-in-Some-clause-some c = if_some_weaker c.finding_in.result _ _ (λ f is. is_printed c.args.mode c.args.reports.now c.args.place c.job_at-job.result c.in-Some.lane c.index-reports-lane.result c.job_at-job.ensures c.requires.places
    (item_at c.args.reports.now c.in-Some.lane c.index-reports-lane.result c.index-reports-lane.is (lane_within c.args.reports.now c.args.place c.in-Some.lane c.job_at-job.result c.requires.places c.in-Some.ensures)) f.now c.in-Some.ensures is) c.finding_in.ensures.some

pub returns-in-Some-clause-none : goal.returns-in-Some-clause-none
returns-in-Some-clause-none c = if_none_weaker c.finding_in.result _ _ (λ none. absurd (not_without c.args.mode c.args.reports.now c.args.place c.job_at-job.result c.in-Some.lane c.index-reports-lane.result c.job_at-job.ensures c.requires.places
    (item_at c.args.reports.now c.in-Some.lane c.index-reports-lane.result c.index-reports-lane.is (lane_within c.args.reports.now c.args.place c.in-Some.lane c.job_at-job.result c.requires.places c.in-Some.ensures)) c.requires.winners c.in-Some.ensures none)) c.finding_in.ensures.none

pub returns-in-None-clause-none : goal.returns-in-None-clause-none
returns-in-None-clause-none c = none_printed c.args.mode c.args.reports.now c.args.place c.job_at-job.result c.job_at-job.ensures c.in-None.ensures
