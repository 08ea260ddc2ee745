use Rattle.std.proofs.Common.{◌≡◌, refl, sym, subst, arith}
use Rattle.judge.specs.Finding.{FindingOf}
use Rattle.sby_lines.specs.Lines.{HasStatementLines}
use Rattle.sby_lines.specs.Reached.{HasReachLines}
use Rattle.sby_lines.specs.Told.{asked_by, came}
use Rattle.sby_lines.proofs.PlaceLemmas.{cover_length}
use Rattle.sby_lines.proofs.ShownLemmas.{one_printed, printed_carried, printed_reaches}
use Rattle.sby_lines.proofs.tell_covers.tell_statement.Goals as goal

pub printed_finding-requires-clause-events : goal.printed_finding-requires-clause-events
printed_finding-requires-clause-events g c = λ k d lt. omega (arith, c.requires.reports.events k d lt, cover_length c.args.heading.now.mode c.args.heading.now.span c.args.flat.now c.args.flat.now c.requires.mode refl, c.requires.statement)

pub tell_found-requires-clause-reaches : goal.tell_found-requires-clause-reaches
tell_found-requires-clause-reaches g c = λ run is. printed_reaches c.args.heading.now.mode c.args.heading.now.span c.args.flat.now c.args.reports.now c.args.place c.in-Some-printed_finding.finding.now run c.requires.mode c.requires.reports c.in-Some-printed_finding.ensures.some is

pub returns-in-Some-printed_finding : goal.returns-in-Some-printed_finding
returns-in-Some-printed_finding g c = λ expect start lines has.
    let h = subst (λ o. HasStatementLines (asked_by c.args.heading.now expect) (came c.args.flat.now c.args.reports.now start) c.args.place o lines) c.in-Some.is has in
    let same : c.in-Some-printed_finding.finding.now ≡ h.0 = one_printed c.args.heading.now.mode c.args.reports.now c.args.place c.in-Some-printed_finding.finding.now h.0 c.requires.reports.places c.in-Some-printed_finding.ensures.some h.2 in
    c.tell_found.ensures h.1 lines h.3 (subst (λ (x : FindingOf). HasReachLines c.args.flat.now c.args.heading.now.name.now h.1 x.run lines) (sym same) h.4)

pub returns-in-None-printed_finding : goal.returns-in-None-printed_finding
returns-in-None-printed_finding g c = λ expect start lines has.
    let h = subst (λ o. HasStatementLines (asked_by c.args.heading.now expect) (came c.args.flat.now c.args.reports.now start) c.args.place o lines) c.in-Some.is has in
    let k = printed_carried c.args.heading.now.mode c.args.reports.now c.args.place h.0 h.2 in
    absurd (c.in-None-printed_finding.ensures.none k.0 k.1 k.2)
