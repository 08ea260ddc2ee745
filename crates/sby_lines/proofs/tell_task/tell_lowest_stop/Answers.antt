use Rattle.std.proofs.Common.{◌≡◌}
use Rattle.sby_lines.proofs.ShownLemmas.{one_stop}
use Rattle.sby_lines.proofs.tell_task.tell_lowest_stop.Goals as goal

pub returns-in-Some : goal.returns-in-Some
returns-in-Some g c = λ reading from limit is start given.
    let same : c.in-Some.reading ≡ reading = one_stop c.args.reports.now c.args.answers.now c.in-Some.reading reading c.requires.places c.in-Some.ensures.some is in
    rw (← same) (c.tell_reading.ensures from limit start given)

pub returns-in-None : goal.returns-in-None
returns-in-None g c = λ reading from limit is start given. absurd (c.in-None.ensures.none is.report is.in_reports is.place reading is.stopped)
