use Rattle.std.proofs.Common.{◌∷◌, length, arith}
use Rattle.std.proofs.lemmas.Result.{err_from_is_err_and}
use Rattle.judge.specs.Jobs.{jobs_in}
use Rattle.sby_lines.specs.Lines.{design_line}
use Rattle.sby_lines.specs.Told.{asked_by, came}
use Rattle.sby_lines.proofs.PlaceLemmas.{has_jobs}
use Rattle.sby_lines.proofs.TaskLemmas.{after_design, job_parts}
use Rattle.sby_lines.proofs.TellLemmas.{tells_then, tells_stopped}
use Rattle.sby_lines.proofs.tell_task.tell_jobs.Goals as goal

pub returns-in_err-tell_head : goal.returns-in_err-tell_head
returns-in_err-tell_head g c = let q = err_from_is_err_and c.from_residual.result c.from_residual.ensures.1 in
    rw (q.1, q.2) (λ expect lines has. let p = job_parts (asked_by c.args.heading.now expect) (came c.args.flat.now c.args.reports.now c.args.start) c.args.collected.now.status c.args.collected.now.answers.items c.args.collected.now.verdict (design_line c.args.heading.now.name.now c.args.flat.now ∷ lines)
    c.requires.reports c.requires.collected.are_answers c.requires.collected.decided has in
    rw (after_design (asked_by c.args.heading.now expect) (came c.args.flat.now c.args.reports.now c.args.start) c.args.collected.now.status c.args.collected.now.answers.items c.args.collected.now.verdict lines p) (tells_stopped {T = Unit {0}} _ _ _ _ _ _ _ (c.in_err-tell_head.ensures expect c.args.flat.now c.requires.collected.are_answers.size)))

pub returns-in_err-tell_stop : goal.returns-in_err-tell_stop
returns-in_err-tell_stop g c = let q = err_from_is_err_and c.from_residual-in_err-tell_stop.result c.from_residual-in_err-tell_stop.ensures.1 in
    rw (q.1, q.2) (λ expect lines has. let p = job_parts (asked_by c.args.heading.now expect) (came c.args.flat.now c.args.reports.now c.args.start) c.args.collected.now.status c.args.collected.now.answers.items c.args.collected.now.verdict (design_line c.args.heading.now.name.now c.args.flat.now ∷ lines)
    c.requires.reports c.requires.collected.are_answers c.requires.collected.decided has in
    rw (after_design (asked_by c.args.heading.now expect) (came c.args.flat.now c.args.reports.now c.args.start) c.args.collected.now.status c.args.collected.now.answers.items c.args.collected.now.verdict lines p) (tells_then {T = Unit {0}} {U = Unit {0}} _ _ _ _ _ _ _ _ tt _ (c.in_ok-tell_head.ensures expect c.args.flat.now c.requires.collected.are_answers.size)
    (tells_stopped {T = Unit {0}} _ _ _ _ _ _ _ (c.in_err-tell_stop.ensures expect c.args.flat.now p.stop p.stopped))))

pub returns-in_err-tell_undecided : goal.returns-in_err-tell_undecided
returns-in_err-tell_undecided g c = let q = err_from_is_err_and c.from_residual-in_err-tell_undecided.result c.from_residual-in_err-tell_undecided.ensures.1 in
    rw (q.1, q.2) (λ expect lines has. let p = job_parts (asked_by c.args.heading.now expect) (came c.args.flat.now c.args.reports.now c.args.start) c.args.collected.now.status c.args.collected.now.answers.items c.args.collected.now.verdict (design_line c.args.heading.now.name.now c.args.flat.now ∷ lines)
    c.requires.reports c.requires.collected.are_answers c.requires.collected.decided has in
    rw (after_design (asked_by c.args.heading.now expect) (came c.args.flat.now c.args.reports.now c.args.start) c.args.collected.now.status c.args.collected.now.answers.items c.args.collected.now.verdict lines p) (tells_then {T = Unit {0}} {U = Unit {0}} _ _ _ _ _ _ _ _ tt _ (c.in_ok-tell_head.ensures expect c.args.flat.now c.requires.collected.are_answers.size)
    (tells_then {T = Unit {0}} {U = Unit {0}} _ _ _ _ _ _ _ _ tt _ (c.in_ok-tell_stop.ensures expect c.args.flat.now p.stop p.stopped)
    (tells_stopped {T = Unit {0}} _ _ _ _ _ _ _ (c.in_err-tell_undecided.ensures (jobs_in c.args.heading.now.mode c.args.heading.now.span c.args.flat.now)
    (has_jobs c.args.heading.now.mode c.args.heading.now.span c.args.flat.now (length c.args.collected.now.answers.items) (omega (arith, c.requires.collected.are_answers.size))))))))

pub returns : goal.returns
returns g c = λ expect lines has. let p = job_parts (asked_by c.args.heading.now expect) (came c.args.flat.now c.args.reports.now c.args.start) c.args.collected.now.status c.args.collected.now.answers.items c.args.collected.now.verdict (design_line c.args.heading.now.name.now c.args.flat.now ∷ lines)
    c.requires.reports c.requires.collected.are_answers c.requires.collected.decided has in
    rw (after_design (asked_by c.args.heading.now expect) (came c.args.flat.now c.args.reports.now c.args.start) c.args.collected.now.status c.args.collected.now.answers.items c.args.collected.now.verdict lines p) (tells_then {T = Unit {0}} {U = Unit {0}} _ _ _ _ _ _ _ _ tt _ (c.in_ok-tell_head.ensures expect c.args.flat.now c.requires.collected.are_answers.size)
    (tells_then {T = Unit {0}} {U = Unit {0}} _ _ _ _ _ _ _ _ tt _ (c.in_ok-tell_stop.ensures expect c.args.flat.now p.stop p.stopped)
    (tells_then {T = Unit {0}} {U = Unit {0}} _ _ _ _ _ _ _ _ tt _ (c.in_ok-tell_undecided.ensures (jobs_in c.args.heading.now.mode c.args.heading.now.span c.args.flat.now)
    (has_jobs c.args.heading.now.mode c.args.heading.now.span c.args.flat.now (length c.args.collected.now.answers.items) (omega (arith, c.requires.collected.are_answers.size))))
    (c.tell_verdict.ensures expect c.args.start p.shown p.runs))))
