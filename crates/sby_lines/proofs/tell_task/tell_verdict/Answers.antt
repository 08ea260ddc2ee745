use Rattle.sby_lines.specs.Told.{asked_by, came}
use Rattle.sby_lines.proofs.TaskLemmas.{cover_lines, run_lines}
use Rattle.sby_lines.proofs.tell_task.tell_verdict.Goals as goal

pub returns-in-Bmc : goal.returns-in-Bmc
returns-in-Bmc g c = λ expect start lines has. c.tell_failure.ensures expect start lines
    (run_lines c.args.heading.now.mode (asked_by c.args.heading.now expect) (came c.args.flat.now c.args.reports.now start) c.args.collected.now.answers.items c.args.collected.now.verdict lines c.in-Bmc.is has)

pub returns-in-Cover : goal.returns-in-Cover
returns-in-Cover g c = λ expect start lines has. c.tell_covers.ensures expect start lines
    (cover_lines c.args.heading.now.mode (asked_by c.args.heading.now expect) (came c.args.flat.now c.args.reports.now start) c.args.collected.now.answers.items c.args.collected.now.verdict lines c.in-Cover.is has)
