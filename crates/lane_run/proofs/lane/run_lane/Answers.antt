use Rattle.std.proofs.Common.{◌≡◌, ◌⊎◌, ℕ, ◌+◌, [], Option, refl, sym, ap, subst, ◌∙◌, arith}
use Rattle.jobs_pool.specs.Places.{PoolOf}
use Rattle.race_core.specs.Consistent.{end_at, events_at}
use Rattle.race_core.specs.Consistent.{Replays}
use Rattle.race_core.specs.Asking.{name_at, terms_of}
use Rattle.lane_run.specs.Asked.{IsFor, terms_at}
use Rattle.lane_run.specs.Done.{CameLate, LaneFaults, LaneSoFar}
use Rattle.lane_run.proofs.Wholes.{lane_fresh, lane_replays}
use Rattle.lane_berth.specs.Berths.{BerthOf}
use Rattle.lane_run.proofs.PlaceLemmas.{bay_alone}
use Rattle.lane_run.proofs.Faults.{faults_more}
use Rattle.lane_run.proofs.Starts.{lane_unstarted, starts_more}
use Rattle.lane_run.proofs.Stops.{lane_stopped}
use Rattle.lane_run.specs.Started.{JobStarts, LaneStarts}
use Rattle.lane_run.proofs.lane.run_lane.Goals as goal

pub loop-place-init : goal.loop-place-init
loop-place-init g c =
    let t = c.args.task.now in
    record {
      so_far = lane_fresh (IsFor g.T.Settled.problem g.T.Settled.job (g.M.ForJob.problem t.factory.now) t.mode) (λ k. g.M.LaneFactory.is_served t.factory.now c.args.report.now.lane (name_at t.mode k))
          (λ k. terms_of g.T.Settled.job g.T.Settled.answer (terms_at t.mode t.limit k)) (g.C.Clock.may_read t.clock.now) c.args.notes.now c.args.report.now c.requires.fresh.0 c.requires.fresh.1;
      remember = record { cells = refl; knows = λ place f h. h };
      same = (refl, refl);
      faults = record { later = (omega arith, omega arith, omega arith); each = λ j lt. absurd (omega (lt, arith)) };
      starts = lane_unstarted c.args.berth.now.pool (g.M.LaneFactory.words t.factory.now c.args.report.now.lane) (g.M.LaneFactory.file t.factory.now) (g.M.LaneFactory.stands t.factory.now c.args.report.now.lane) (g.M.LaneFactory.ends t.factory.now c.args.report.now.lane) (g.M.LaneFactory.proves t.factory.now c.args.report.now.lane) (g.M.LaneFactory.most t.factory.now) (g.M.LaneFactory.most_output t.factory.now c.args.report.now.lane) t.mode (g.L.Launch.told c.args.berth.now.bay) c.args.report.now;
      of = c.requires.notes;
      berth = refl;
    }

pub run_next-requires-clause-so_far : goal.run_next-requires-clause-so_far
run_next-requires-clause-so_far g c κs within =
    let t = c.args.task.now in
    let l = c.loop-place in
    subst (λ (lane : ℕ). LaneSoFar (IsFor g.T.Settled.problem g.T.Settled.job (g.M.ForJob.problem t.factory.now) t.mode) (λ k. g.M.LaneFactory.is_served t.factory.now lane (name_at t.mode k))
    (λ k. terms_of g.T.Settled.job g.T.Settled.answer (terms_at t.mode t.limit k)) (g.C.Clock.may_read t.clock.now) l.place l.notes l.report)
    (sym l.invariant.same.0) l.invariant.so_far

pub run_next-requires-clause-idle : goal.run_next-requires-clause-idle
run_next-requires-clause-idle g c κs within =
    let at = c.loop-place.invariant.berth in
    (ap (λ (b : BerthOf g.row.L.Denot). b.holds) at ∙ c.requires.idle.0, ap (λ (b : BerthOf g.row.L.Denot). b.stands) at ∙ c.requires.idle.1)

pub loop-place-preserved : goal.loop-place-preserved
loop-place-preserved g c =
    let t = c.args.task.now in
    let l = c.loop-place in
    let e = c.run_next.ensures in
    record {
      so_far = subst (λ (lane : ℕ). LaneSoFar (IsFor g.T.Settled.problem g.T.Settled.job (g.M.ForJob.problem t.factory.now) t.mode) (λ k. g.M.LaneFactory.is_served t.factory.now lane (name_at t.mode k))
          (λ k. terms_of g.T.Settled.job g.T.Settled.answer (terms_at t.mode t.limit k)) (g.C.Clock.may_read t.clock.now) (l.place + 1) c.run_next.new.notes c.run_next.new.report)
          l.invariant.same.0 e.so_far;
      remember = record { cells = e.remember.cells ∙ l.invariant.remember.cells; knows = λ place f h. e.remember.knows place f (l.invariant.remember.knows place f h) };
      same = (e.same.0 ∙ l.invariant.same.0, e.same.1 ∙ l.invariant.same.1);
      faults = faults_more (record { starts = g.L.Launch.start_faults c.args.berth.now.bay; reads = g.L.Launch.read_faults c.args.berth.now.bay; holds = g.L.Launch.hold_faults c.args.berth.now.bay }) (record { starts = g.L.Launch.start_faults l.berth.bay; reads = g.L.Launch.read_faults l.berth.bay; holds = g.L.Launch.hold_faults l.berth.bay }) (record { starts = g.L.Launch.start_faults c.run_next.new.berth.bay; reads = g.L.Launch.read_faults c.run_next.new.berth.bay; holds = g.L.Launch.hold_faults c.run_next.new.berth.bay })
          l.place l.report c.run_next.new.report e.faults.0 l.invariant.faults l.invariant.so_far.ends e.faults.1 e.faults.2;
      starts = starts_more c.args.berth.now.pool (g.M.LaneFactory.words t.factory.now c.args.report.now.lane) (g.M.LaneFactory.file t.factory.now) (g.M.LaneFactory.stands t.factory.now c.args.report.now.lane) (g.M.LaneFactory.ends t.factory.now c.args.report.now.lane) (g.M.LaneFactory.proves t.factory.now c.args.report.now.lane) (g.M.LaneFactory.most t.factory.now) (g.M.LaneFactory.most_output t.factory.now c.args.report.now.lane) t.mode
          (g.L.Launch.told c.args.berth.now.bay) (g.L.Launch.told l.berth.bay) (g.L.Launch.told c.run_next.new.berth.bay) l.place l.report c.run_next.new.report e.starts.0 l.invariant.starts e.stand e.starts.1
          (subst (λ (lane : ℕ). (CameLate c.run_next.new.report l.place × (e.starts.0 ≡ [])) ⊎ JobStarts c.args.berth.now.pool (g.M.LaneFactory.words t.factory.now lane) (g.M.LaneFactory.file t.factory.now) (g.M.LaneFactory.stands t.factory.now lane) (g.M.LaneFactory.ends t.factory.now lane) (g.M.LaneFactory.proves t.factory.now lane) (g.M.LaneFactory.most t.factory.now) (g.M.LaneFactory.most_output t.factory.now lane) (name_at t.mode l.place)
          (g.L.Launch.told l.berth.bay) (events_at c.run_next.new.report l.place) (end_at c.run_next.new.report l.place) e.starts.0) l.invariant.same.0
          (subst (λ (p : Option PoolOf). (CameLate c.run_next.new.report l.place × (e.starts.0 ≡ [])) ⊎ JobStarts p (g.M.LaneFactory.words t.factory.now l.report.lane) (g.M.LaneFactory.file t.factory.now) (g.M.LaneFactory.stands t.factory.now l.report.lane) (g.M.LaneFactory.ends t.factory.now l.report.lane) (g.M.LaneFactory.proves t.factory.now l.report.lane) (g.M.LaneFactory.most t.factory.now) (g.M.LaneFactory.most_output t.factory.now l.report.lane) (name_at t.mode l.place)
          (g.L.Launch.told l.berth.bay) (events_at c.run_next.new.report l.place) (end_at c.run_next.new.report l.place) e.starts.0) (ap (λ (b : BerthOf g.row.L.Denot). b.pool) l.invariant.berth) e.starts.2));
      of = e.remember.cells ∙ l.invariant.of;
      berth = bay_alone c.args.berth.now l.berth c.run_next.new.berth l.invariant.berth e.berth;
    }

pub returns-clause-replays : goal.returns-clause-replays
returns-clause-replays g c =
    let t = c.args.task.now in
    let l = c.loop-place in
    let at : l.place ≡ c.args.report.now.jobs = omega (c.loop-place-test.false, c.loop-place.auto.place-end, c.jobs-place-end.ensures.jobs, arith) in
    subst (λ (n : ℕ). Replays (λ k. g.M.LaneFactory.is_served t.factory.now c.args.report.now.lane (name_at t.mode k)) (λ k. terms_of g.T.Settled.job g.T.Settled.answer (terms_at t.mode t.limit k)) n l.report) at
    (lane_replays (IsFor g.T.Settled.problem g.T.Settled.job (g.M.ForJob.problem t.factory.now) t.mode) (λ k. g.M.LaneFactory.is_served t.factory.now c.args.report.now.lane (name_at t.mode k))
    (λ k. terms_of g.T.Settled.job g.T.Settled.answer (terms_at t.mode t.limit k)) (g.C.Clock.may_read t.clock.now) l.place l.notes l.report l.invariant.so_far (l.invariant.same.1 ∙ sym at))

pub returns-clause-done : goal.returns-clause-done
returns-clause-done g c =
    let t = c.args.task.now in
    let l = c.loop-place in
    let at : l.place ≡ c.args.report.now.jobs = omega (c.loop-place-test.false, c.loop-place.auto.place-end, c.jobs-place-end.ensures.jobs, arith) in
    subst (λ (n : ℕ). LaneSoFar (IsFor g.T.Settled.problem g.T.Settled.job (g.M.ForJob.problem t.factory.now) t.mode) (λ k. g.M.LaneFactory.is_served t.factory.now c.args.report.now.lane (name_at t.mode k))
    (λ k. terms_of g.T.Settled.job g.T.Settled.answer (terms_at t.mode t.limit k)) (g.C.Clock.may_read t.clock.now) n l.notes l.report) at l.invariant.so_far

pub returns-clause-faults : goal.returns-clause-faults
returns-clause-faults g c =
    let l = c.loop-place in
    let at : l.place ≡ c.args.report.now.jobs = omega (c.loop-place-test.false, c.loop-place.auto.place-end, c.jobs-place-end.ensures.jobs, arith) in
    subst (λ (n : ℕ). LaneFaults (record { starts = g.L.Launch.start_faults c.args.berth.now.bay; reads = g.L.Launch.read_faults c.args.berth.now.bay; holds = g.L.Launch.hold_faults c.args.berth.now.bay }) (record { starts = g.L.Launch.start_faults l.berth.bay; reads = g.L.Launch.read_faults l.berth.bay; holds = g.L.Launch.hold_faults l.berth.bay }) n l.report) at l.invariant.faults

pub returns-clause-starts : goal.returns-clause-starts
returns-clause-starts g c =
    let t = c.args.task.now in
    let l = c.loop-place in
    let at : l.place ≡ c.args.report.now.jobs = omega (c.loop-place-test.false, c.loop-place.auto.place-end, c.jobs-place-end.ensures.jobs, arith) in
    subst (λ (n : ℕ). LaneStarts c.args.berth.now.pool (g.M.LaneFactory.words t.factory.now c.args.report.now.lane) (g.M.LaneFactory.file t.factory.now) (g.M.LaneFactory.stands t.factory.now c.args.report.now.lane) (g.M.LaneFactory.ends t.factory.now c.args.report.now.lane) (g.M.LaneFactory.proves t.factory.now c.args.report.now.lane) (g.M.LaneFactory.most t.factory.now) (g.M.LaneFactory.most_output t.factory.now c.args.report.now.lane) t.mode
    (g.L.Launch.told c.args.berth.now.bay) (g.L.Launch.told l.berth.bay) n l.report) at l.invariant.starts

pub returns-clause-stopped : goal.returns-clause-stopped
returns-clause-stopped g c = λ j k lt is.
    let t = c.args.task.now in
    let l = c.loop-place in
    let at : l.place ≡ c.args.report.now.jobs = omega (c.loop-place-test.false, c.loop-place.auto.place-end, c.jobs-place-end.ensures.jobs, arith) in
    lane_stopped (IsFor g.T.Settled.problem g.T.Settled.job (g.M.ForJob.problem t.factory.now) t.mode) (λ k. g.M.LaneFactory.is_served t.factory.now c.args.report.now.lane (name_at t.mode k))
    (λ k. terms_of g.T.Settled.job g.T.Settled.answer (terms_at t.mode t.limit k)) (g.C.Clock.may_read t.clock.now) l.place l.notes l.report l.invariant.so_far t.limit (λ k. refl) (λ k. refl) c.requires.start
    j k (omega (lt, at, arith)) is
