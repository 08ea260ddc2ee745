use Rattle.std.proofs.Common.{sym, subst}
use Rattle.sby_lines.specs.Lines.{HasStopLines}
use Rattle.sby_lines.specs.Told.{IsStopReading, asked_by, came}
use Rattle.sby_lines.proofs.tell_task.tell_stop.Goals as goal

pub returns-in-Timeout : goal.returns-in-Timeout
returns-in-Timeout g c = λ expect d lines has.
    let h = subst (λ s. HasStopLines (asked_by c.args.heading.now expect) (came d c.args.reports.now c.args.start) c.args.collected.now.answers.items s lines) c.in-Timeout.is has in
    rw h.6 (c.tell_lowest_stop.ensures h.0 h.1 h.2 (subst (λ xs. IsStopReading c.args.reports.now xs h.0) (sym c.deref.ensures.value) h.3) h.4 h.5)
