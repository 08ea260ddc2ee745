use Rattle.std.proofs.Common.{◌≡◌, ℕ, ◌+◌, ◌<◌, [], ◌∷◌, ◌++◌, length, set, inl, refl, sym, ap, subst, ◌∙◌, arith}
use Rattle.race_core.specs.Asking.{name_at, terms_of}
use Rattle.race_core.specs.Carrying.{KnewBy}
use Rattle.race_core.specs.Consistent.{events_at}
use Rattle.race_core.specs.Report.{EventsOf, ReportOf}
use Rattle.race_core.specs.declared.end.JobEnd.TheVariants as end
use Rattle.race_core.specs.declared.event.LaneEvent.TheVariants as event
use Rattle.lane_run.specs.Asked.{IsFor, terms_at}
use Rattle.lane_run.specs.Done.{LaneSoFar}
use Rattle.lane_run.proofs.Lanes.{one_done}
use Rattle.lane_run.proofs.Wholes.{next_fresh, want_done}
use Rattle.lane_run.proofs.Faults.{none_failed}
use Rattle.lane_run.proofs.Starts.{in_report, no_more, one_end, one_events, one_stands}
use Rattle.lane_run.proofs.lane.run_job.Goals as goal

pub returns-in_default-clause-so_far : goal.returns-in_default-clause-so_far
returns-in_default-clause-so_far g c =
    let t = c.args.task.now in
    let for = IsFor g.T.Settled.problem g.T.Settled.job (g.M.ForJob.problem t.factory.now) t.mode in
    let serves = λ (k : ℕ). g.M.LaneFactory.is_served t.factory.now c.args.report.now.lane (name_at t.mode k) in
    let terms = λ (k : ℕ). terms_of g.T.Settled.job g.T.Settled.answer (terms_at t.mode t.limit k) in
    let may = g.C.Clock.may_read t.clock.now in
    let n = c.args.place in
    let r = c.args.report.now in
    subst (λ (x : ReportOf g.row.T.Denot). LaneSoFar for serves terms may (n + 1) c.args.notes.now x) (sym c.want_lists.ensures.report)
    (one_done for serves terms may n c.args.notes.now r c.requires.so_far c.args.notes.now (record { reader = []; keeper = event.KeeperMemory ∷ [] }) end.Memory
    (record { cells = refl; knows = λ place f h. h }) c.requires.place.1 c.requires.free
    (want_done for (serves n) (terms n) (KnewBy (events_at r) n) may n c.args.notes.now c.want_lists.ensures.served))

pub want_lists-requires-in_default-new-clause-left : goal.want_lists-requires-in_default-new-clause-left
want_lists-requires-in_default-new-clause-left g c κs within =
    let t = c.args.task.now in
    next_fresh (IsFor g.T.Settled.problem g.T.Settled.job (g.M.ForJob.problem t.factory.now) t.mode) (λ k. g.M.LaneFactory.is_served t.factory.now c.args.report.now.lane (name_at t.mode k))
    (λ k. terms_of g.T.Settled.job g.T.Settled.answer (terms_at t.mode t.limit k)) (g.C.Clock.may_read t.clock.now) c.args.place c.args.notes.now c.args.report.now c.requires.so_far c.requires.place.1

pub returns-in_default-new-clause-so_far : goal.returns-in_default-new-clause-so_far
returns-in_default-new-clause-so_far g c =
    let t = c.args.task.now in
    let for = IsFor g.T.Settled.problem g.T.Settled.job (g.M.ForJob.problem t.factory.now) t.mode in
    let serves = λ (k : ℕ). g.M.LaneFactory.is_served t.factory.now c.args.report.now.lane (name_at t.mode k) in
    let terms = λ (k : ℕ). terms_of g.T.Settled.job g.T.Settled.answer (terms_at t.mode t.limit k) in
    let may = g.C.Clock.may_read t.clock.now in
    let n = c.args.place in
    let r = c.args.report.now in
    subst (λ (x : ReportOf g.row.T.Denot). LaneSoFar for serves terms may (n + 1) c.args.notes.now x) (sym c.want_lists-in_default-new.ensures.report)
    (one_done for serves terms may n c.args.notes.now r c.requires.so_far c.args.notes.now (record { reader = []; keeper = event.KeeperMemory ∷ [] }) end.Memory
    (record { cells = refl; knows = λ place f h. h }) c.requires.place.1 c.requires.free
    (want_done for (serves n) (terms n) (KnewBy (events_at r) n) may n c.args.notes.now c.want_lists-in_default-new.ensures.served))

pub returns-clause-so_far : goal.returns-clause-so_far
returns-clause-so_far g c =
    let t = c.args.task.now in
    let for = IsFor g.T.Settled.problem g.T.Settled.job (g.M.ForJob.problem t.factory.now) t.mode in
    let serves = λ (k : ℕ). g.M.LaneFactory.is_served t.factory.now c.args.report.now.lane (name_at t.mode k) in
    let terms = λ (k : ℕ). terms_of g.T.Settled.job g.T.Settled.answer (terms_at t.mode t.limit k) in
    let may = g.C.Clock.may_read t.clock.now in
    let n = c.args.place in
    let e = c.do_job-end.result.end in
    subst (λ (x : ReportOf g.row.T.Denot). LaneSoFar for serves terms may (n + 1) c.do_job-end.new.notes x)
    (sym (c.push_end.ensures ∙ ap (λ (x : ReportOf g.row.T.Denot). record x { ends = x.ends ++ e ∷ [] }) c.put_events.ensures))
    (one_done for serves terms may n c.args.notes.now c.args.report.now c.requires.so_far c.do_job-end.new.notes (record { reader = c.do_job-end.result.events.events; keeper = c.do_job-end.new.keeper.events }) e
    c.do_job-end.ensures.remember c.requires.place.1 c.requires.free c.do_job-end.ensures.done)

pub returns-in_default-clause-faults : goal.returns-in_default-clause-faults
returns-in_default-clause-faults g c =
    let L = g.L.Launch in (
      end.Memory,
      ap (λ (x : ReportOf g.row.T.Denot). x.ends) c.want_lists.ensures.report,
      none_failed (record { starts = L.start_faults c.args.berth.now.bay; reads = L.read_faults c.args.berth.now.bay; holds = L.hold_faults c.args.berth.now.bay }) end.Memory tt,
    )

pub returns-in_default-new-clause-faults : goal.returns-in_default-new-clause-faults
returns-in_default-new-clause-faults g c =
    let L = g.L.Launch in (
      end.Memory,
      ap (λ (x : ReportOf g.row.T.Denot). x.ends) c.want_lists-in_default-new.ensures.report,
      none_failed (record { starts = L.start_faults c.args.berth.now.bay; reads = L.read_faults c.args.berth.now.bay; holds = L.hold_faults c.args.berth.now.bay }) end.Memory tt,
    )

pub returns-clause-faults : goal.returns-clause-faults
returns-clause-faults g c =
    let e = c.do_job-end.result.end in
    (e, ap (λ (x : ReportOf g.row.T.Denot). x.ends) (c.push_end.ensures ∙ ap (λ (x : ReportOf g.row.T.Denot). record x { ends = x.ends ++ e ∷ [] }) c.put_events.ensures), c.do_job-end.ensures.faults)

pub returns-in_default-clause-stand : goal.returns-in_default-clause-stand
returns-in_default-clause-stand g c =
    one_stands c.args.place c.args.report.now c.want_lists.new.report end.Memory (record { reader = []; keeper = event.KeeperMemory ∷ [] }) c.requires.so_far.ends c.want_lists.ensures.report

pub returns-in_default-clause-starts : goal.returns-in_default-clause-starts
returns-in_default-clause-starts g c =
    let t = c.args.task.now in
    let m = t.factory.now in
    let n = c.args.place in
    let r = c.args.report.now in
    let lane = r.lane in
    let now = c.want_lists.new.report in
    let es : EventsOf g.row.T.Denot = record { reader = []; keeper = event.KeeperMemory ∷ [] } in
    let few : n < length r.events = omega (c.requires.place.1, c.requires.so_far.events, arith) in (
      [],
      no_more (g.L.Launch.told c.args.berth.now.bay),
      in_report c.args.berth.now.pool (g.M.LaneFactory.words m lane) (g.M.LaneFactory.file m) (g.M.LaneFactory.stands m lane) (g.M.LaneFactory.ends m lane) (g.M.LaneFactory.proves m lane) (g.M.LaneFactory.most m) (g.M.LaneFactory.most_output m lane) (name_at t.mode n) (g.L.Launch.told c.args.berth.now.bay) n now end.Memory es []
          (one_end n r now end.Memory es c.requires.so_far.ends c.want_lists.ensures.report) (one_events n r now end.Memory es c.requires.so_far.ends c.want_lists.ensures.report few) (inl (inl tt, refl, refl)),
    )

pub returns-in_default-new-clause-stand : goal.returns-in_default-new-clause-stand
returns-in_default-new-clause-stand g c =
    one_stands c.args.place c.args.report.now c.want_lists-in_default-new.new.report end.Memory (record { reader = []; keeper = event.KeeperMemory ∷ [] }) c.requires.so_far.ends c.want_lists-in_default-new.ensures.report

pub returns-in_default-new-clause-starts : goal.returns-in_default-new-clause-starts
returns-in_default-new-clause-starts g c =
    let t = c.args.task.now in
    let m = t.factory.now in
    let n = c.args.place in
    let r = c.args.report.now in
    let lane = r.lane in
    let now = c.want_lists-in_default-new.new.report in
    let es : EventsOf g.row.T.Denot = record { reader = []; keeper = event.KeeperMemory ∷ [] } in
    let few : n < length r.events = omega (c.requires.place.1, c.requires.so_far.events, arith) in (
      [],
      no_more (g.L.Launch.told c.args.berth.now.bay),
      in_report c.args.berth.now.pool (g.M.LaneFactory.words m lane) (g.M.LaneFactory.file m) (g.M.LaneFactory.stands m lane) (g.M.LaneFactory.ends m lane) (g.M.LaneFactory.proves m lane) (g.M.LaneFactory.most m) (g.M.LaneFactory.most_output m lane) (name_at t.mode n) (g.L.Launch.told c.args.berth.now.bay) n now end.Memory es []
          (one_end n r now end.Memory es c.requires.so_far.ends c.want_lists-in_default-new.ensures.report) (one_events n r now end.Memory es c.requires.so_far.ends c.want_lists-in_default-new.ensures.report few) (inl (inl tt, refl, refl)),
    )

pub returns-clause-stand : goal.returns-clause-stand
returns-clause-stand g c =
    let e = c.do_job-end.result.end in
    one_stands c.args.place c.args.report.now c.push_end.new.self e (record { reader = c.do_job-end.result.events.events; keeper = c.do_job-end.new.keeper.events }) c.requires.so_far.ends
    (c.push_end.ensures ∙ ap (λ (x : ReportOf g.row.T.Denot). record x { ends = x.ends ++ e ∷ [] }) c.put_events.ensures)

pub returns-clause-starts : goal.returns-clause-starts
returns-clause-starts g c =
    let t = c.args.task.now in
    let m = t.factory.now in
    let n = c.args.place in
    let r = c.args.report.now in
    let lane = r.lane in
    let now = c.push_end.new.self in
    let e = c.do_job-end.result.end in
    let es : EventsOf g.row.T.Denot = record { reader = c.do_job-end.result.events.events; keeper = c.do_job-end.new.keeper.events } in
    let few : n < length r.events = omega (c.requires.place.1, c.requires.so_far.events, arith) in
    let is : now ≡ record r { events = set r.events n es; ends = r.ends ++ e ∷ [] } = c.push_end.ensures ∙ ap (λ (x : ReportOf g.row.T.Denot). record x { ends = x.ends ++ e ∷ [] }) c.put_events.ensures in
    let h = c.do_job-end.ensures.starts in (
      h.0,
      h.1,
      in_report c.args.berth.now.pool (g.M.LaneFactory.words m lane) (g.M.LaneFactory.file m) (g.M.LaneFactory.stands m lane) (g.M.LaneFactory.ends m lane) (g.M.LaneFactory.proves m lane) (g.M.LaneFactory.most m) (g.M.LaneFactory.most_output m lane) (name_at t.mode n) (g.L.Launch.told c.args.berth.now.bay) n now e es h.0
          (one_end n r now e es c.requires.so_far.ends is) (one_events n r now e es c.requires.so_far.ends is few) h.2,
    )
