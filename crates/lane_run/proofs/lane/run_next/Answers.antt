use Rattle.std.proofs.Common.{ℕ, ◌+◌, ◌<◌, [], inl, inr, refl, sym, ap, subst, arith}
use Rattle.race_core.specs.Asking.{name_at, terms_of}
use Rattle.race_core.specs.Ends.{IsLast}
use Rattle.race_core.specs.Report.{ReportOf}
use Rattle.race_core.specs.declared.end.JobEnd.{JobEnd}
use Rattle.lane_run.specs.Asked.{IsFor, terms_at}
use Rattle.lane_run.specs.Done.{LaneSoFar}
use Rattle.lane_run.proofs.Lanes.{none_last, one_late}
use Rattle.lane_run.proofs.Faults.{late_failed}
use Rattle.lane_run.proofs.Starts.{came_late, late_stand, no_more}
use Rattle.lane_run.proofs.lane.run_next.Goals as goal

pub returns-in-Some-clause-so_far : goal.returns-in-Some-clause-so_far
returns-in-Some-clause-so_far g c =
    let t = c.args.task.now in
    let for = IsFor g.T.Settled.problem g.T.Settled.job (g.M.ForJob.problem t.factory.now) t.mode in
    let serves = λ (k : ℕ). g.M.LaneFactory.is_served t.factory.now c.args.report.now.lane (name_at t.mode k) in
    let terms = λ (k : ℕ). terms_of g.T.Settled.job g.T.Settled.answer (terms_at t.mode t.limit k) in
    let may = g.C.Clock.may_read t.clock.now in
    let x = rw c.ends.ensures at c.in-Some.ensures in
    let ends = c.requires.so_far.ends in
    let lt : x.0 < c.args.place = omega (x.1, ends, arith) in
    subst (λ (y : ReportOf g.row.T.Denot). LaneSoFar for serves terms may (c.args.place + 1) c.args.notes.now y) (sym c.push_end.ensures)
    (one_late for serves terms may c.args.place c.args.notes.now c.args.report.now c.requires.so_far x.0 c.in-Some.end lt (subst (λ (e : JobEnd g.row.T.Denot). IsLast e) x.3 x.2) x.3)

pub run_job-requires-clause-free : goal.run_job-requires-clause-free
run_job-requires-clause-free g c κs within =
    let t = c.args.task.now in
    let x = rw c.ends.ensures at c.in-None.ensures in
    let ends = c.requires.so_far.ends in
    λ l lt last. none_last (IsFor g.T.Settled.problem g.T.Settled.job (g.M.ForJob.problem t.factory.now) t.mode) (λ k. g.M.LaneFactory.is_served t.factory.now c.args.report.now.lane (name_at t.mode k))
    (λ k. terms_of g.T.Settled.job g.T.Settled.answer (terms_at t.mode t.limit k)) (g.C.Clock.may_read t.clock.now) c.args.place c.args.notes.now c.args.report.now c.requires.so_far
    (λ k is lasts. x k (omega (is, ends, arith)) lasts) l lt last

pub returns-in-Some-clause-faults : goal.returns-in-Some-clause-faults
returns-in-Some-clause-faults g c =
    let L = g.L.Launch in
    let x = rw c.ends.ensures at c.in-Some.ensures in (
      c.in-Some.end,
      ap (λ (y : ReportOf g.row.T.Denot). y.ends) c.push_end.ensures,
      late_failed (record { starts = L.start_faults c.args.berth.now.bay; reads = L.read_faults c.args.berth.now.bay; holds = L.hold_faults c.args.berth.now.bay }) c.in-Some.end x.2,
    )

pub returns-in-Some-clause-stand : goal.returns-in-Some-clause-stand
returns-in-Some-clause-stand g c = late_stand c.args.place c.args.report.now c.push_end.new.self c.in-Some.end c.requires.so_far.ends c.push_end.ensures

pub returns-in-Some-clause-starts : goal.returns-in-Some-clause-starts
returns-in-Some-clause-starts g c =
    let n = c.args.place in
    let r = c.args.report.now in
    let x = rw c.ends.ensures at c.in-Some.ensures in
    let ends = c.requires.so_far.ends in
    let lt : x.0 < n = omega (x.1, ends, arith) in (
      [],
      no_more (g.L.Launch.told c.args.berth.now.bay),
      inl (came_late n r c.push_end.new.self c.in-Some.end ends c.push_end.ensures x.0 lt x.2 x.3 (c.requires.so_far.left n (omega arith)), refl),
    )

pub returns-in-None-clause-starts : goal.returns-in-None-clause-starts
returns-in-None-clause-starts g c =
    let h = c.run_job.ensures.starts in
    (h.0, h.1, inr h.2)
