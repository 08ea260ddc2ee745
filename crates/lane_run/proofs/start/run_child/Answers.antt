use Rattle.std.proofs.Common.{◌≡◌, ◌∙◌, List, Option, [], ap, subst, inl, map, option_map, string_bytes}
use Rattle.jobs_pool.specs.Places.{PoolOf}
use Rattle.sby_edge.specs.Child.{StartOf}
use Rattle.lane_berth.specs.Berths.{BerthOf}
use Rattle.lane_run.specs.Keeping.{IsOfCell}
use Rattle.lane_run.specs.Starting.{ReadsScript, Starts, Unstarted, with_starts}
use Rattle.lane_run.proofs.Keepers.{keeps_then}
use Rattle.lane_run.proofs.PlaceLemmas.{given_back, given_up, left_alone}
use Rattle.lane_run.proofs.ChildStarts.{no_starts, none_for_end, none_for_want, reads_within, starts_within}
use Rattle.lane_run.proofs.start.run_child.Goals as goal

pub returns-in-Some-clause-starts : goal.returns-in-Some-clause-starts
returns-in-Some-clause-starts g c =
    let m = c.args.watch.now.problem.now in
    let job = c.args.watch.now.terms.now.job in (
      [],
      no_starts (g.L.Launch.told c.args.berth.now.bay),
      none_for_end c.args.berth.now.pool job (g.M.LaneFactory.words m c.args.lane job) (g.M.LaneFactory.file m job)
          (ReadsScript (g.M.LaneFactory.stands m c.args.lane job) (g.M.LaneFactory.ends m c.args.lane job) (g.M.LaneFactory.proves m c.args.lane job) (g.L.Launch.told c.args.berth.now.bay) job (g.M.LaneFactory.most m) (g.M.LaneFactory.most_output m c.args.lane) c.args.reader_events.events)
          c.args.reader_events.events c.look_first.new.events.events c.in-Some.end (inl c.in-Some.ensures.end.0) c.requires.fresh.0,
    )

pub returns-in-Some-wait_place-clause-starts : goal.returns-in-Some-wait_place-clause-starts
returns-in-Some-wait_place-clause-starts g c =
    let m = c.args.watch.now.problem.now in
    let job = c.args.watch.now.terms.now.job in
    let same = c.wait_place.ensures.same in (
      [],
      ap (λ (b : BerthOf g.row.L.Denot). g.L.Launch.told b.bay) same ∙ no_starts (g.L.Launch.told c.args.berth.now.bay),
      none_for_end c.args.berth.now.pool job (g.M.LaneFactory.words m c.args.lane job) (g.M.LaneFactory.file m job)
          (ReadsScript (g.M.LaneFactory.stands m c.args.lane job) (g.M.LaneFactory.ends m c.args.lane job) (g.M.LaneFactory.proves m c.args.lane job) (g.L.Launch.told c.args.berth.now.bay) job (g.M.LaneFactory.most m) (g.M.LaneFactory.most_output m c.args.lane) c.args.reader_events.events)
          c.args.reader_events.events c.wait_place.new.events.events c.in-Some-wait_place.end
          (subst (λ (p : Option PoolOf). Unstarted p c.in-Some-wait_place.end) (ap (λ (b : BerthOf g.row.L.Denot). b.pool) same) c.in-Some-wait_place.ensures.over.1) c.requires.fresh.0,
    )

pub returns-in-Some-wait_place-clause-same : goal.returns-in-Some-wait_place-clause-same
returns-in-Some-wait_place-clause-same g c =
    left_alone c.args.berth.now c.wait_place.new.berth c.requires.idle.0 c.wait_place.ensures.same c.in-Some-wait_place.ensures.over.0.0

pub returns-in-Some-wait_place-clause-keeps : goal.returns-in-Some-wait_place-clause-keeps
returns-in-Some-wait_place-clause-keeps g c =
    let of_cell = (IsOfCell g.T.Settled.problem g.T.Settled.job (g.M.ForJob.problem c.args.watch.now.problem.now) c.args.watch.now.terms.now c.args.watch.now.other) in
    let may = (g.C.Clock.may_read c.args.watch.now.clock.now) in
    keeps_then of_cell may c.args.notes.now c.look_first.new.notes c.wait_place.new.notes [] c.look_first.new.events.events c.wait_place.new.events.events
    (rw c.requires.fresh.1 at c.look_first.ensures.keeps) c.wait_place.ensures.keeps

pub returns-in_default-make-clause-starts : goal.returns-in_default-make-clause-starts
returns-in_default-make-clause-starts g c =
    let m = c.args.watch.now.problem.now in
    let job = c.args.watch.now.terms.now.job in
    let told = λ (b : BerthOf g.row.L.Denot). g.L.Launch.told b.bay in (
      [],
      ap told c.want_placed.ensures.same ∙ (ap told c.wait_place.ensures.same ∙ no_starts (g.L.Launch.told c.args.berth.now.bay)),
      none_for_want c.args.berth.now.pool job (g.M.LaneFactory.words m c.args.lane job) (g.M.LaneFactory.file m job)
          (ReadsScript (g.M.LaneFactory.stands m c.args.lane job) (g.M.LaneFactory.ends m c.args.lane job) (g.M.LaneFactory.proves m c.args.lane job) (g.L.Launch.told c.args.berth.now.bay) job (g.M.LaneFactory.most m) (g.M.LaneFactory.most_output m c.args.lane) c.args.reader_events.events)
          c.args.reader_events.events c.want_placed.new.events.events c.want_placed.result c.want_placed.ensures.is c.requires.fresh.0,
    )

pub returns-in_default-make-clause-same : goal.returns-in_default-make-clause-same
returns-in_default-make-clause-same g c =
    given_up c.args.berth.now c.wait_place.new.berth c.want_placed.new.berth c.requires.idle.0 c.wait_place.ensures.same c.want_placed.ensures.same

pub returns-in_default-make-clause-keeps : goal.returns-in_default-make-clause-keeps
returns-in_default-make-clause-keeps g c =
    let of_cell = (IsOfCell g.T.Settled.problem g.T.Settled.job (g.M.ForJob.problem c.args.watch.now.problem.now) c.args.watch.now.terms.now c.args.watch.now.other) in
    let may = (g.C.Clock.may_read c.args.watch.now.clock.now) in
    keeps_then of_cell may c.args.notes.now c.look_first.new.notes c.wait_place.new.notes [] c.look_first.new.events.events c.want_placed.new.events.events
    (rw c.requires.fresh.1 at c.look_first.ensures.keeps)
    (keeps_then of_cell may c.look_first.new.notes c.wait_place.new.notes c.wait_place.new.notes c.look_first.new.events.events c.wait_place.new.events.events c.want_placed.new.events.events
    c.wait_place.ensures.keeps c.want_placed.ensures.keeps)

pub returns-clause-same : goal.returns-clause-same
returns-clause-same g c =
    given_back c.args.berth.now c.wait_place.new.berth c.start_child.new.berth c.requires.idle.0 c.wait_place.ensures.same c.start_child.ensures.same

pub returns-clause-keeps : goal.returns-clause-keeps
returns-clause-keeps g c =
    let of_cell = (IsOfCell g.T.Settled.problem g.T.Settled.job (g.M.ForJob.problem c.args.watch.now.problem.now) c.args.watch.now.terms.now c.args.watch.now.other) in
    let may = (g.C.Clock.may_read c.args.watch.now.clock.now) in
    keeps_then of_cell may c.args.notes.now c.look_first.new.notes c.start_child.new.notes [] c.look_first.new.events.events c.start_child.new.keeper_events.events
    (rw c.requires.fresh.1 at c.look_first.ensures.keeps)
    (keeps_then of_cell may c.look_first.new.notes c.wait_place.new.notes c.start_child.new.notes c.look_first.new.events.events c.wait_place.new.events.events c.start_child.new.keeper_events.events
    c.wait_place.ensures.keeps c.start_child.ensures.keeps)

pub returns-clause-starts : goal.returns-clause-starts
returns-clause-starts g c =
    let m = c.args.watch.now.problem.now in
    let job = c.args.watch.now.terms.now.job in
    let s = c.in-Ok.child.judge in
    let bay = g.L.Launch.told c.args.berth.now.bay in
    let events = c.start_child.result.events.events in
    let kept = c.start_child.new.keeper_events.events in
    let h = subst (λ (b : BerthOf g.row.L.Denot). (starts : List StartOf) × (g.L.Launch.told c.start_child.new.berth.bay ≡ option_map (with_starts starts) (g.L.Launch.told b.bay))
    × Starts b.pool job (map string_bytes c.in-Ok.child.words.items) (g.M.File.Told.bytes c.file.result)
    (ReadsScript (g.M.ChildJudge.ChildJudge.stands s) (g.M.ChildJudge.ChildJudge.ends s) (g.M.ChildJudge.ChildJudge.proves s) (g.L.Launch.told b.bay) job c.most.result (g.M.ChildJudge.ChildJudge.most s) events)
    events kept c.start_child.result.end starts) c.wait_place.ensures.same c.start_child.ensures.starts in
    let w = c.in-Ok.ensures.judges in (
      h.0,
      h.1,
      starts_within c.args.berth.now.pool job (map string_bytes c.in-Ok.child.words.items) (g.M.LaneFactory.words m c.args.lane job) (g.M.File.Told.bytes c.file.result) (g.M.LaneFactory.file m job)
          (ReadsScript (g.M.ChildJudge.ChildJudge.stands s) (g.M.ChildJudge.ChildJudge.ends s) (g.M.ChildJudge.ChildJudge.proves s) bay job (g.M.LaneFactory.most m) (g.M.ChildJudge.ChildJudge.most s) events)
          (ReadsScript (g.M.LaneFactory.stands m c.args.lane job) (g.M.LaneFactory.ends m c.args.lane job) (g.M.LaneFactory.proves m c.args.lane job) bay job (g.M.LaneFactory.most m) (g.M.LaneFactory.most_output m c.args.lane) events)
          events kept c.start_child.result.end h.0 c.in-Ok.ensures.words c.file.ensures
          (reads_within (g.M.ChildJudge.ChildJudge.stands s) (g.M.LaneFactory.stands m c.args.lane job) (g.M.ChildJudge.ChildJudge.ends s) (g.M.LaneFactory.ends m c.args.lane job) (g.M.ChildJudge.ChildJudge.proves s) (g.M.LaneFactory.proves m c.args.lane job)
          bay job (g.M.LaneFactory.most m) (g.M.ChildJudge.ChildJudge.most s) (g.M.LaneFactory.most_output m c.args.lane) events w.0 w.1 w.2 c.in-Ok.ensures.most)
          (rw c.most.ensures at h.2),
    )
