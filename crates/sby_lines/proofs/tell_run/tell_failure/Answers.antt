use Rattle.std.proofs.Common.{◌≡◌, ◌∙◌, Some, ap, sym, subst}
use Rattle.sby_terms.specs.declared.names.Verdict.TheVariants.{Fail}
use Rattle.sby_lines.specs.Lines.{HasRunLines}
use Rattle.sby_lines.specs.Told.{IsFirstSat, asked_by, came}
use Rattle.sby_lines.proofs.tell_run.tell_failure.Goals as goal

pub returns-in-Some-Fail : goal.returns-in-Some-Fail
returns-in-Some-Fail g c = λ expect start lines has.
    let fails : c.args.collected.now.verdict ≡ Some Fail = c.in-Some-Fail.is ∙ ap Some (rw c.in-Some-Fail.is at c.in-Some-Fail.field-0-is) in
    let h = subst (λ v. HasRunLines (asked_by c.args.heading.now expect) (came c.args.flat.now c.args.reports.now start) c.args.collected.now.answers.items v lines) fails has in
    c.tell_failing.ensures h.0 h.1 h.2 lines (subst (λ xs. IsFirstSat xs h.0) (sym c.deref.ensures.value) h.3) h.4 h.5 h.6
