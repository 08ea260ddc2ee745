use Rattle.std.proofs.Common.{[], ◌∷◌, ap, subst, sym}
use Rattle.std.specs.Prelude.{None}
use Rattle.design_reader.specs.Grammar.{Reads}
use Rattle.sby_lines.specs.Lines.{HasLines, design_line, done_line, unput_lines}
use Rattle.sby_lines.specs.Telling.{Tells}
use Rattle.sby_lines.specs.Told.{AreLimited, IsRaceStatus, Request, asked_by, came}
use Rattle.sby_top.specs.Headline.{HasOwnStatus}
use Rattle.sby_top.specs.Task.{task_seen}
use Rattle.sby_top.proofs.EndLemmas.{as_request, printed_as, served_last, served_lines, status_as, traces_as}
use Rattle.sby_top.proofs.host.Host.finish_served.Goals as goal

pub returns-clause-status : goal.returns-clause-status
returns-clause-status g c =
    let d = c.args.served.problem.design in
    let reads : Reads c.into_text.result c.args.served.problem.design = rw c.into_text.ensures c.requires.problem.reads in
    status_as (λ s. HasOwnStatus (task_seen c.args.task) (record { name = c.args.task.name; status = s; early = None; start = c.args.served.start; reports = c.args.served.reports; unput = c.tell_task-told.new.unput; text = c.into_text.result }))
    c.tell_task-told.result c.args.served.collected.status c.rc_of-rc.result _ _ c.ended-status.ensures
    (d, (λ none. reads), (c.args.served.collected.answers.items, c.requires.collected.are_answers, c.requires.collected.has_status))

pub returns-clause-printed : goal.returns-clause-printed
returns-clause-printed g c = λ first faults head.
    let named = subst (λ n. Tells first (g.S.Sink.taken c.args.self.now.out.now) faults (g.S.Sink.faults c.args.self.now.out.now) (g.S.Sink.ended c.args.self.now.out.now) (design_line n c.args.served.problem.design ∷ []) c.args.head) (sym (ap (λ (r : Request). r.name) c.heading.ensures.request)) head in
    let d = c.args.served.problem.design in
    let reads : Reads c.into_text.result c.args.served.problem.design = rw c.into_text.ensures c.requires.problem.reads in
    let race : IsRaceStatus (task_seen c.args.task).request (came c.args.served.problem.design c.args.served.reports.items c.args.served.start) c.args.served.collected.status = (c.args.served.collected.answers.items, c.requires.collected.are_answers, c.requires.collected.has_status) in
    let exists = c.job_lines_exist.ensures (task_seen c.args.task).request (came c.args.served.problem.design c.args.served.reports.items c.args.served.start) c.args.served.collected.status c.requires.reported c.requires.limited race in
    let made = served_lines (task_seen c.args.task).request c.into_text.result d c.args.served.reports.items c.args.served.start c.tell_task-told.new.unput.items c.args.served.collected.status c.rc_of-rc.result exists.0 reads race c.rc_of-rc.ensures exists.1 in
    printed_as (task_seen c.args.task).request.name first _ faults _ _ (HasLines (task_seen c.args.task).request c.into_text.result None c.args.served.reports.items c.args.served.start c.tell_task-told.new.unput.items) c.args.task.expect
    (λ s. HasOwnStatus (task_seen c.args.task) (record { name = c.args.task.name; status = s; early = None; start = c.args.served.start; reports = c.args.served.reports; unput = c.tell_task-told.new.unput; text = c.into_text.result }))
    _ c.tell_task-told.result c.args.served.collected.status c.rc_of-rc.result _ _ c.ended-status.ensures
    made (served_last exists.0 (unput_lines (task_seen c.args.task).request c.tell_task-told.new.unput.items) (done_line (task_seen c.args.task).request.name c.args.served.collected.status c.rc_of-rc.result))
    (as_request first _ faults _ _ (asked_by c.heading.result c.args.task.expect) (task_seen c.args.task).request (came c.args.served.problem.design c.args.served.reports.items c.args.served.start) c.args.served.collected.status c.rc_of-rc.result exists.0
    c.tell_task-told.new.unput.items c.tell_task-told.result c.heading.ensures.request (λ h. c.tell_task-told.ensures.told first faults c.args.task.expect exists.0 named h) exists.1)
    c.rc_of-rc.ensures
    (d, (λ none. reads), race)

pub returns-clause-put : goal.returns-clause-put
returns-clause-put g c = λ first faults head.
    let named = subst (λ n. Tells first (g.S.Sink.taken c.args.self.now.out.now) faults (g.S.Sink.faults c.args.self.now.out.now) (g.S.Sink.ended c.args.self.now.out.now) (design_line n c.args.served.problem.design ∷ []) c.args.head) (sym (ap (λ (r : Request). r.name) c.heading.ensures.request)) head in
    let race : IsRaceStatus (task_seen c.args.task).request (came c.args.served.problem.design c.args.served.reports.items c.args.served.start) c.args.served.collected.status = (c.args.served.collected.answers.items, c.requires.collected.are_answers, c.requires.collected.has_status) in
    let exists = c.job_lines_exist.ensures (task_seen c.args.task).request (came c.args.served.problem.design c.args.served.reports.items c.args.served.start) c.args.served.collected.status c.requires.reported c.requires.limited race in
    traces_as (task_seen c.args.task) c.args.served.problem c.args.served.reports.items _ _ c.tell_task-told.new.unput.items c.tell_task-told.result c.args.served.collected.status c.rc_of-rc.result _ _ _ _ _ _ _ _ c.ended-status.ensures
    (rw (← c.heading.ensures.request) (c.tell_task-told.ensures.put c.args.task.expect))
    (as_request first _ faults _ _ (asked_by c.heading.result c.args.task.expect) (task_seen c.args.task).request (came c.args.served.problem.design c.args.served.reports.items c.args.served.start) c.args.served.collected.status c.rc_of-rc.result exists.0
    c.tell_task-told.new.unput.items c.tell_task-told.result c.heading.ensures.request (λ h. c.tell_task-told.ensures.told first faults c.args.task.expect exists.0 named h) exists.1)

pub returns-clause-later : goal.returns-clause-later
returns-clause-later g c = λ first faults head.
    let named = subst (λ n. Tells first (g.S.Sink.taken c.args.self.now.out.now) faults (g.S.Sink.faults c.args.self.now.out.now) (g.S.Sink.ended c.args.self.now.out.now) (design_line n c.args.served.problem.design ∷ []) c.args.head) (sym (ap (λ (r : Request). r.name) c.heading.ensures.request)) head in
    let race : IsRaceStatus (task_seen c.args.task).request (came c.args.served.problem.design c.args.served.reports.items c.args.served.start) c.args.served.collected.status = (c.args.served.collected.answers.items, c.requires.collected.are_answers, c.requires.collected.has_status) in
    let exists = c.job_lines_exist.ensures (task_seen c.args.task).request (came c.args.served.problem.design c.args.served.reports.items c.args.served.start) c.args.served.collected.status c.requires.reported c.requires.limited race in
    (as_request first _ faults _ _ (asked_by c.heading.result c.args.task.expect) (task_seen c.args.task).request (came c.args.served.problem.design c.args.served.reports.items c.args.served.start) c.args.served.collected.status c.rc_of-rc.result exists.0
    c.tell_task-told.new.unput.items c.tell_task-told.result c.heading.ensures.request (λ h. c.tell_task-told.ensures.told first faults c.args.task.expect exists.0 named h) exists.1).later

pub tell_task-told-requires-clause-limited : goal.tell_task-told-requires-clause-limited
tell_task-told-requires-clause-limited g c = λ lifetimes lives. subst (λ l. AreLimited c.args.served.start l c.args.served.reports.items) (sym c.heading.ensures.limit) c.requires.limited
