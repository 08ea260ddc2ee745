use Rattle.std.proofs.Common.{◌≡◌, ℕ, ◌≤◌, List, [], inl, option_map, refl, sym, subst, arith}
use Rattle.sby_edge.specs.Child.{StartOf}
use Rattle.race_core.specs.Asking.{name_at, terms_of}
use Rattle.race_core.specs.Carrying.{KnewBy}
use Rattle.race_core.specs.Consistent.{events_at}
use Rattle.race_core.specs.Report.{EventsOf}
use Rattle.race_core.specs.declared.event.LaneEvent.{LaneEvent}
use Rattle.race_core.specs.declared.step.JobTerms.{JobTerms}
use Rattle.lane_run.specs.Starting.{with_starts}
use Rattle.lane_run.specs.Asked.{IsFor, terms_at}
use Rattle.lane_run.specs.Done.{JobDone, KnownIn}
use Rattle.lane_run.proofs.Jobs.{passed_done, served_done}
use Rattle.lane_run.proofs.Lanes.{known_for, known_knew, knew_known}
use Rattle.lane_run.proofs.Faults.{none_failed}
use Rattle.lane_run.proofs.Starts.{no_more}
use Rattle.lane_run.specs.Started.{JobStarts}
use Rattle.lane_run.proofs.lane.do_job.Goals as goal

pub returns-then-serves-clause-done : goal.returns-then-serves-clause-done
returns-then-serves-clause-done g c =
    let t = c.args.task.now in
    let m = t.factory.now in
    let e = c.run_child.ensures in
    let serve = subst (λ (l : ℕ). g.M.LaneFactory.is_served m l (name_at t.mode c.args.place)) c.lane.ensures
    (subst (λ (x : JobTerms). g.M.LaneFactory.is_served m c.lane.result x.job) c.terms-terms.ensures c.if-serves.ensures) in
    served_done g.T.Settled.problem g.T.Settled.job g.T.Settled.answer (g.M.ForJob.problem m) t.mode t.limit (g.M.LaneFactory.is_served m c.args.report.now.lane (name_at t.mode c.args.place)) (g.C.Clock.may_read t.clock.now)
    c.args.place c.args.notes.now c.run_child.new.notes c.run_child.result.end (KnewBy (events_at c.args.report.now) c.args.place)
    (record { reader = c.run_child.result.events.events; keeper = c.run_child.new.keeper_events.events }) c.terms-terms.result c.other_cell.result c.terms-terms.ensures c.other_cell.ensures serve
    (record { ended = e.end; right_reader = e.right.0; right_keeper = e.right.1; away = e.place; keeps = e.keeps; won = e.won; found = e.found })

pub returns-else-serves-clause-done : goal.returns-else-serves-clause-done
returns-else-serves-clause-done g c =
    let t = c.args.task.now in
    let m = t.factory.now in
    let r = c.args.report.now in
    let n = c.args.place in
    let e = c.pass_job.ensures in
    let for = IsFor g.T.Settled.problem g.T.Settled.job (g.M.ForJob.problem m) t.mode in
    let serves = λ (k : ℕ). g.M.LaneFactory.is_served m r.lane (name_at t.mode k) in
    let terms = λ (k : ℕ). terms_of g.T.Settled.job g.T.Settled.answer (terms_at t.mode t.limit k) in
    let may = g.C.Clock.may_read t.clock.now in
    let few : n ≤ r.jobs = omega (c.requires.place.1, arith) in
    subst (λ (l : List (LaneEvent g.row.T.Denot)). JobDone for (serves n) (terms n) (KnewBy (events_at r) n) may n c.pass_job.new.notes (record { reader = l; keeper = c.pass_job.new.events.events }) c.pass_job.result)
    (sym c.requires.fresh.0)
    (passed_done g.T.Settled.problem g.T.Settled.job g.T.Settled.answer (g.M.ForJob.problem m) t.mode t.limit (serves n) may n c.args.notes.now c.pass_job.new.notes c.pass_job.result (KnewBy (events_at r) n)
    c.pass_job.new.events.events c.terms-terms.result c.other_cell.result (KnownIn r) c.terms-terms.ensures c.other_cell.ensures
    (λ s. c.if-serves.ensures (subst (λ (x : JobTerms). g.M.LaneFactory.is_served m c.lane.result x.job) (sym c.terms-terms.ensures) (subst (λ (l : ℕ). g.M.LaneFactory.is_served m l (name_at t.mode n)) (sym c.lane.ensures) s)))
    (λ f h. known_knew for serves terms may n c.args.notes.now r c.requires.so_far f h)
    (λ f h. knew_known for serves terms may n c.args.notes.now r c.requires.so_far few f h)
    (λ f h. known_for for serves terms may n c.args.notes.now r c.requires.so_far f h)
    (record { ended = e.end; right_keeper = e.right; away = e.place; keeps = e.keeps }))

pub returns-then-serves-clause-faults : goal.returns-then-serves-clause-faults
returns-then-serves-clause-faults g c =
    let e = c.run_child.ensures in
    record { later = e.later; start = e.start_failed; read = e.read_failed; hold = e.hold_failed }

pub returns-else-serves-clause-faults : goal.returns-else-serves-clause-faults
returns-else-serves-clause-faults g c =
    let L = g.L.Launch in
    none_failed (record { starts = L.start_faults c.args.berth.now.bay; reads = L.read_faults c.args.berth.now.bay; holds = L.hold_faults c.args.berth.now.bay }) c.pass_job.result c.pass_job.ensures.no_start

pub returns-then-serves-clause-starts : goal.returns-then-serves-clause-starts
returns-then-serves-clause-starts g c =
    let m = c.args.task.now.factory.now in
    let L = g.L.Launch in
    let bay = L.told c.args.berth.now.bay in
    let bay' = L.told c.run_child.new.berth.bay in
    let events : EventsOf g.row.T.Denot = record { reader = c.run_child.result.events.events; keeper = c.run_child.new.keeper_events.events } in
    subst (λ (l : ℕ). (starts : List StartOf) × (bay' ≡ option_map (with_starts starts) bay)
    × JobStarts c.args.berth.now.pool (g.M.LaneFactory.words m l) (g.M.LaneFactory.file m) (g.M.LaneFactory.stands m l) (g.M.LaneFactory.ends m l) (g.M.LaneFactory.proves m l) (g.M.LaneFactory.most m) (g.M.LaneFactory.most_output m l) (name_at c.args.task.now.mode c.args.place) bay events c.run_child.result.end starts) c.lane-then-serves.ensures
    (subst (λ (x : JobTerms). (starts : List StartOf) × (bay' ≡ option_map (with_starts starts) bay)
    × JobStarts c.args.berth.now.pool (g.M.LaneFactory.words m c.lane-then-serves.result) (g.M.LaneFactory.file m) (g.M.LaneFactory.stands m c.lane-then-serves.result) (g.M.LaneFactory.ends m c.lane-then-serves.result) (g.M.LaneFactory.proves m c.lane-then-serves.result) (g.M.LaneFactory.most m) (g.M.LaneFactory.most_output m c.lane-then-serves.result) x.job bay events c.run_child.result.end starts)
    c.terms-terms.ensures c.run_child.ensures.starts)

pub returns-else-serves-clause-starts : goal.returns-else-serves-clause-starts
returns-else-serves-clause-starts g c = ([], no_more (g.L.Launch.told c.args.berth.now.bay), inl (inl c.pass_job.ensures.no_start, c.requires.fresh.0, refl))
