use Rattle.std.proofs.Common.{◌≡◌, ◌⊎◌, ◌≤◌, ◌∷◌, [], sym, subst, ap, ◌∙◌, arith}
use Rattle.judge.specs.Problem.{AskedOf}
use Rattle.sby_edge.specs.Cause.{Rose}
use Rattle.sby_lines.specs.Lines.{design_line}
use Rattle.sby_lines.specs.Telling.{Tells}
use Rattle.sby_terms.specs.declared.names.Status.TheVariants.{Memory as MemoryStatus}
use Rattle.std.specs.Prelude.{string_bytes}
use Rattle.task_race.specs.Bays.{AreLater, YardAt, counts_at, yard_at}
use Rattle.sby_top.specs.Causes.{AreTracesPut, IsDone}
use Rattle.sby_top.specs.Judged.{AreReports}
use Rattle.sby_top.specs.Task.{task_seen}
use Rattle.sby_top.specs.World.{FilesOf, RaceOf}
use Rattle.sby_top.proofs.RunLemmas.{served_named, task_ran}
use Rattle.sby_top.proofs.TruthLemmas.{Laws}
use Rattle.sby_top.proofs.host.Host.finish_raced.Goals as goal

pub finish_served-requires-clause-problem : goal.finish_served-requires-clause-problem
finish_served-requires-clause-problem g c = λ lifetimes lives. rw c.settle-served.ensures.problem c.requires.raced.2.served.1.0.problem

pub returns-clause-ran : goal.returns-clause-ran
returns-clause-ran g c = λ got put pool before prepared raced same_yard same_files told.
    let laws : Laws = record {
      induction = c.base_and_step_show_that_nothing_breaks.ensures;
      slices = c.slices_show_that_nothing_breaks.ensures.slices;
      within = c.slices_show_that_nothing_breaks.ensures.within;
      break = c.fail_shows_its_run.ensures;
      exist = c.job_lines_exist.ensures;
      statement = c.settled_statement_is_shown.ensures;
    } in
    let s = c.settle-served.ensures in
    let h = c.finish_served.ensures in
    let may_read = g.C.Clock.may_read c.args.self.now.clock.now in
    let task = task_seen c.args.task in
    let p = c.args.raced.problem in
    let start = c.settle-served.result.start in
    let reports = c.settle-served.result.reports.items in
    let yard : g.row.Y.Denot → YardAt = λ y. yard_at (g.Y.Yard.told y) (g.Y.Yard.started y) (counts_at (g.Y.Yard.start_faults y) (g.Y.Yard.read_faults y) (g.Y.Yard.hold_faults y)) in
    let files : g.row.F.Denot → FilesOf = λ f. record { told = g.F.Files.told f; faults = g.F.Files.faults f; blamed = g.F.Files.blamed f } in
    let race : YardAt → YardAt → RaceOf = λ b a. record { task = c.args.number; pool = pool; before = b; after = a; start = start } in
    let head : Tells before.taken (g.S.Sink.taken c.settle-served.new.self.out.now) before.sink_faults (g.S.Sink.faults c.settle-served.new.self.out.now) (g.S.Sink.ended c.settle-served.new.self.out.now) (design_line (string_bytes c.args.task.name) c.settle-served.result.problem.design ∷ []) c.args.head =
    rw (s.problem, s.out) told in
    let by_yard = subst (λ (y : YardAt). AreReports task.service may_read task p put.told (race y (yard c.settle-served.new.self.yard.now)) reports) (sym same_yard) (s.reports pool put.told raced) in
    let done : IsDone may_read task got put (race before.yard (yard c.finish_served.new.self.yard.now)) c.settle-served.result.problem.problem.text reports = record {
      problem = p;
      served = prepared.served;
      text_is = ap (λ (q : AskedOf). q.problem.text) s.problem;
      put = prepared.put_is;
      reports_are = subst (λ (y : g.row.Y.Denot). AreReports task.service may_read task p put.told (race before.yard (yard y)) reports) (sym h.yard) by_yard;
      faults = prepared.faults;
      blamed = prepared.blamed;
    } in
    let from = ap files s.files ∙ sym same_files in
    let put_now = subst (λ (f : FilesOf). AreTracesPut task f (files c.finish_served.new.self.files.now) c.settle-served.result.problem reports c.finish_served.result.0.unput.items
    ((c.finish_served.result.0.status ≡ MemoryStatus) ⊎ Rose before.sink_faults (g.S.Sink.faults c.finish_served.new.self.out.now))) from (h.put before.taken before.sink_faults head) in
    let later = subst (λ (y : g.row.Y.Denot). AreLater (yard c.args.self.now.yard.now).counts (yard y).counts) (sym h.yard) s.children in
    task_ran laws may_read c.args.number _ task c.finish_served.result.0 _ c.requires.askable
    (served_named may_read c.args.number _ start task c.finish_served.result.0 c.settle-served.result.problem c.settle-served.result.problem.problem.text reports done (sym s.problem) h.end put_now h.status)
    (h.printed before.taken before.sink_faults head)
    (record {
      prepared = let same = prepared.faults in omega (same, arith);
      files = subst (λ (f : FilesOf). f.faults ≤ g.F.Files.faults c.finish_served.new.self.files.now) from h.files;
      sink = h.later before.taken before.sink_faults head;
      children = subst (λ (y : YardAt). AreLater y.counts (yard c.finish_served.new.self.yard.now).counts) (sym same_yard) later;
      scripts = ap g.Y.Yard.told h.yard ∙ s.scripts ∙ sym (ap (λ (y : YardAt). y.scripts) same_yard);
    })
