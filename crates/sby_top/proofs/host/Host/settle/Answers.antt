use Rattle.std.proofs.Common.{length, subst, sym}
use Rattle.judge.specs.Jobs.{jobs_in}
use Rattle.race_core.specs.Room.{HasRoom}
use Rattle.sby_top.specs.Ready.{report_count}
use Rattle.sby_top.specs.Task.{task_seen}
use Rattle.sby_top.proofs.ReportLemmas.{are_counted, job_count, limited, reported}
use Rattle.sby_top.proofs.host.Host.settle.Goals as goal

pub returns-clause-reports : goal.returns-clause-reports
returns-clause-reports g c = λ pool told raced. c.come_back-ran.ensures.reports (task_seen c.args.task.now) c.args.raced.problem c.args.number pool told raced.came

pub new-collected-requires-clause-room : goal.new-collected-requires-clause-room
new-collected-requires-clause-room g c =
    let own = c.requires.2 in
    let task = task_seen c.args.task.now in
    let p = c.args.raced.problem in
    let reports = c.come_back-ran.ensures.reports task p c.args.number c.requires.0 c.requires.1 own.came in
    let count = job_count own.served.0 task p own.served.1.0 in
    let jobs = subst (λ n. HasRoom n (report_count task.service) c.args.raced.room) count own.room in
    let room = subst (λ n. HasRoom (length (jobs_in task.request.mode task.request.span p.design)) n c.args.raced.room) (sym (are_counted (g.C.Clock.may_read c.args.self.now.clock.now) _ task p _ task.service c.come_back-ran.result.reports.items reports)) jobs in
    rw (c.flat.ensures.flat, c.deref.ensures.value) room

pub new-collected-requires-clause-reported : goal.new-collected-requires-clause-reported
new-collected-requires-clause-reported g c =
    let own = c.requires.2 in
    let reports = c.come_back-ran.ensures.reports (task_seen c.args.task.now) c.args.raced.problem c.args.number c.requires.0 c.requires.1 own.came in
    rw (c.flat.ensures.flat, c.deref.ensures.value)
    (reported (g.C.Clock.may_read c.args.self.now.clock.now) _ _ (task_seen c.args.task.now) c.args.raced.problem _ (task_seen c.args.task.now).service c.come_back-ran.result.reports.items own.served.1.0 reports)

pub returns-clause-reported : goal.returns-clause-reported
returns-clause-reported g c =
    let own = c.requires.2 in
    let reports = c.come_back-ran.ensures.reports (task_seen c.args.task.now) c.args.raced.problem c.args.number c.requires.0 c.requires.1 own.came in
    reported (g.C.Clock.may_read c.args.self.now.clock.now) _ _ (task_seen c.args.task.now) c.args.raced.problem _ (task_seen c.args.task.now).service c.come_back-ran.result.reports.items own.served.1.0 reports

pub returns-clause-limited : goal.returns-clause-limited
returns-clause-limited g c =
    let own = c.requires.2 in
    let reports = c.come_back-ran.ensures.reports (task_seen c.args.task.now) c.args.raced.problem c.args.number c.requires.0 c.requires.1 own.came in
    limited (g.C.Clock.may_read c.args.self.now.clock.now) _ (task_seen c.args.task.now) c.args.raced.problem _ (task_seen c.args.task.now).service c.come_back-ran.result.reports.items reports
