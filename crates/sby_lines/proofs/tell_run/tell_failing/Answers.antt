use Rattle.std.proofs.Common.{subst}
use Rattle.sby_lines.specs.Told.{IsPrintedFinding}
use Rattle.sby_lines.proofs.ShownLemmas.{first_same}
use Rattle.sby_lines.proofs.tell_run.tell_failing.Goals as goal

pub returns-in-Some : goal.returns-in-Some
returns-in-Some g c = λ place f run lines first is at has. c.tell_shown.ensures f run lines
    (subst (λ p. IsPrintedFinding c.args.heading.now.mode c.args.reports.now p f) (first_same c.args.answers.now place c.in-Some.place first c.in-Some.ensures.some) is) at has

pub returns-in-None : goal.returns-in-None
returns-in-None g c = λ place f run lines first is at has. absurd (c.in-None.ensures.none place first.0)
