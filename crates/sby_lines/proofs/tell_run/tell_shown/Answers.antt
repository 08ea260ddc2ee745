use Rattle.std.proofs.Common.{◌∙◌, ap}
use Rattle.judge.specs.Finding.{FindingOf}
use Rattle.sby_lines.proofs.ShownLemmas.{one_printed, printed_breaks, printed_carried}
use Rattle.sby_lines.proofs.tell_run.tell_shown.Goals as goal

pub tell_finding-requires : goal.tell_finding-requires
tell_finding-requires g c = λ run is. printed_breaks c.args.heading.now.mode c.args.heading.now.span c.args.flat.now c.args.reports.now c.args.place c.in-Some.finding.now run c.requires.mode c.requires.reports c.requires.place c.in-Some.ensures.some is

pub returns-in-Some : goal.returns-in-Some
returns-in-Some g c = λ f run lines is at has. c.tell_finding.ensures run lines
    (ap (λ (x : FindingOf). x.run) (one_printed c.args.heading.now.mode c.args.reports.now c.args.place c.in-Some.finding.now f c.requires.reports.places c.in-Some.ensures.some is) ∙ at) has

pub returns-in-None : goal.returns-in-None
returns-in-None g c = λ f run lines is at has. let h = printed_carried c.args.heading.now.mode c.args.reports.now c.args.place f is in absurd (c.in-None.ensures.none h.0 h.1 h.2)
