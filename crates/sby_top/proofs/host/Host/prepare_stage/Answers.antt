use Rattle.std.proofs.Common.{ap, refl, sym, subst}
use Rattle.std.specs.Prelude.{Option}
use Rattle.jobs_pool.specs.Places.{PoolOf}
use Rattle.task_race.specs.Bays.{NoneStarted, YardAt, counts_at, yard_at}
use Rattle.sby_top.specs.Ready.{IsReady, back_by}
use Rattle.sby_top.specs.Task.{task_seen}
use Rattle.sby_top.specs.Turns.{IsSound, turn_seen}
use Rattle.sby_top.proofs.TogetherLemmas.{none_started_yet, spared_none}
use Rattle.sby_top.proofs.host.Host.prepare_stage.Goals as goal

pub returns-in-Refused-clause-at : goal.returns-in-Refused-clause-at
returns-in-Refused-clause-at g c = λ pool is. (ap turn_seen c.in-Refused.is, refl)

pub returns-in-Refused-clause-spared : goal.returns-in-Refused-clause-spared
returns-in-Refused-clause-spared g c = none_started_yet _

pub returns-in-Ok-clause-at : goal.returns-in-Ok-clause-at
returns-in-Ok-clause-at g c = λ pool is.
    let r = c.in-Ok.ensures in
    let turn = ap turn_seen c.in-Run.is in (
      turn,
      subst IsSound turn c.requires,
      record { served = r.served; put_is = r.put; faults = r.still; blamed = r.blamed },
      subst (λ (o : Option PoolOf). IsReady (back_by g.Y.Bay.Launch.told g.Y.Bay.Launch.start_faults g.Y.Bay.Launch.read_faults g.Y.Bay.Launch.hold_faults) (task_seen c.in-Run.task) c.args.number o (g.F.Files.told c.prepare.new.self.files.now) (g.Y.Yard.told c.args.self.now.yard.now) c.in-Ok.ready) is r.ready,
    )

pub returns-in-Ok-clause-spared : goal.returns-in-Ok-clause-spared
returns-in-Ok-clause-spared g c = subst (λ (y : YardAt). NoneStarted (yard_at (g.Y.Yard.told c.args.self.now.yard.now) (g.Y.Yard.started c.args.self.now.yard.now) (counts_at (g.Y.Yard.start_faults c.args.self.now.yard.now) (g.Y.Yard.read_faults c.args.self.now.yard.now) (g.Y.Yard.hold_faults c.args.self.now.yard.now))) y) (sym c.in-Ok.ensures.yard) (none_started_yet _)

pub returns-in-Ok-clause-silent : goal.returns-in-Ok-clause-silent
returns-in-Ok-clause-silent g c = rw c.in-Ok.ensures.out refl

pub returns-in-Err-clause-at : goal.returns-in-Err-clause-at
returns-in-Err-clause-at g c = λ pool is.
    let r = c.in-Err.ensures in
    let turn = ap turn_seen c.in-Run.is in (turn, subst IsSound turn c.requires, r.err, r.later)

pub returns-in-Err-clause-spared : goal.returns-in-Err-clause-spared
returns-in-Err-clause-spared g c = spared_none _ _ _ c.in-Err.ensures.spared

pub returns-in-Err-clause-silent : goal.returns-in-Err-clause-silent
returns-in-Err-clause-silent g c = rw c.in-Err.ensures.out refl
