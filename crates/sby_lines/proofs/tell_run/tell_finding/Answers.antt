use Rattle.std.proofs.Common.{◌≡◌, ◌∙◌, sym, subst}
use Rattle.sby_lines.specs.Broken.{HasBrokenLines}
use Rattle.sby_lines.proofs.ShownLemmas.{some_same}
use Rattle.sby_lines.proofs.tell_run.tell_finding.Goals as goal

pub tell_broken-requires : goal.tell_broken-requires
tell_broken-requires g c = c.requires c.in-Some.played.now (sym c.in-Some.ensures.run)

pub returns-in-Some : goal.returns-in-Some
returns-in-Some g c = λ run lines is has.
    let same : run ≡ c.in-Some.played.now = some_same run c.in-Some.played.now (sym is ∙ sym c.in-Some.ensures.run) in
    c.tell_broken.ensures lines (subst (λ r. HasBrokenLines c.args.flat.now c.args.name.now r lines) same has)
