use Rattle.std.proofs.Common.{List, map, sym, subst, refl}
use Rattle.std.specs.Prelude.{None, Option}
use Rattle.jobs_pool.specs.Places.{PoolOf}
use Rattle.sby_edge.specs.Cause.{CountsOf}
use Rattle.sby_edge.specs.Child.{IsLogged, LaneOf}
use Rattle.task_race.specs.Bays.{BackOf, CameBack, counts_at, counts_in, left_all, yard_at}
use Rattle.task_race.specs.Prepared.{IsPrepared}
use Rattle.task_race.specs.Ran.{LanesRan, racing_seen}
use Rattle.task_race.specs.declared.racing.RanLanes.{RanLanes}
use Rattle.task_race.proofs.BackLemmas.{counts_left}
use Rattle.task_race.proofs.racing.race_task.Goals as goal

pub returns-clause-ran : goal.returns-clause-ran
returns-clause-ran g c =
    let count = λ (b : g.row.Y-Bay.Denot). counts_at (g.Y.Bay.Launch.start_faults b) (g.Y.Bay.Launch.read_faults b) (g.Y.Bay.Launch.hold_faults b) in
    let view : g.row.Y-Bay.Denot → BackOf = λ b. record { told = g.Y.Bay.Launch.told b; counts = count b } in
    let raced = c.run_race-raced.result in
    let back = c.finish_race.ensures in
    let before = yard_at (g.Y.Yard.told c.args.yard.now) (g.Y.Yard.started c.args.yard.now) (counts_at (g.Y.Yard.start_faults c.args.yard.now) (g.Y.Yard.read_faults c.args.yard.now) (g.Y.Yard.hold_faults c.args.yard.now)) in
    let now = yard_at (g.Y.Yard.told c.finish_race.new.yard) (g.Y.Yard.started c.finish_race.new.yard) (counts_at (g.Y.Yard.start_faults c.finish_race.new.yard) (g.Y.Yard.read_faults c.finish_race.new.yard) (g.Y.Yard.hold_faults c.finish_race.new.yard)) in
    let prepared = subst (λ (p : Option PoolOf). IsPrepared (racing_seen c.args.racing.now) p c.in_ok-prepared.field-0) c.none-alone.ensures c.in_ok-prepared.ensures.prepared in
    let ran = c.run_race-raced.ensures None (g.Y.Yard.told c.args.yard.now) prepared c.in_ok-prepared.ensures.bays before now refl
    (subst (λ (counts : CountsOf). CameBack (map counts_in (map view raced.bays.items)) counts now.counts) c.prepare_race-prepared.ensures.counts
    (subst (λ (parts : List CountsOf). CameBack parts (counts_at (g.Y.Yard.start_faults c.prepare_race-prepared.new.yard) (g.Y.Yard.read_faults c.prepare_race-prepared.new.yard) (g.Y.Yard.hold_faults c.prepare_race-prepared.new.yard)) now.counts)
    (sym (counts_left view count raced.bays.items (λ b. refl))) back.counts))
    (subst (λ (started : Option (List LaneOf)). IsLogged (left_all (map view raced.bays.items)) started (g.Y.Yard.started c.finish_race.new.yard)) c.in_ok-prepared.ensures.started back.started) in
    subst (λ (r : RanLanes). LanesRan (racing_seen c.args.racing.now) None (g.C.Clock.may_read c.args.clock.now) before now r.start r.reports.items) (sym back.ran) ran
