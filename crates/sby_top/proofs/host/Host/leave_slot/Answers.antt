use Rattle.std.proofs.Common.{◌≡◌, ◌∙◌, ap, refl, sym, subst}
use Rattle.std.specs.Prelude.{Some}
use Rattle.sby_top.specs.Ready.{back_by}
use Rattle.sby_top.specs.Run.{TurnUntold}
use Rattle.sby_top.specs.Task.{task_seen}
use Rattle.sby_top.specs.Turns.{Turn}
use Rattle.sby_top.specs.Waiting.{IsAt}
use Rattle.sby_top.specs.World.{with_yard, world_at}
use Rattle.sby_top.specs.declared.slot.Stage.TheVariants as stage
use Rattle.task_race.specs.Bays.{counts_at, yard_at}
use Rattle.sby_top.proofs.TogetherLemmas.{held_at, untold_early, untold_raced}
use Rattle.sby_top.proofs.host.Host.leave_slot.Goals as goal

pub returns-in-Some-Raced-clause-untold : goal.returns-in-Some-Raced-clause-untold
returns-in-Some-Raced-clause-untold g c = λ pool got put turn holds.
    let arm = c.in-Some-Raced in
    let at : c.args.slot.stage ≡ Some (stage.Raced arm._task arm.raced) = arm.is ∙ ap Some arm.field-0-is in
    let held = held_at c.args.slot (IsAt (back_by g.Y.Bay.Launch.told g.Y.Bay.Launch.start_faults g.Y.Bay.Launch.read_faults g.Y.Bay.Launch.hold_faults) (g.C.Clock.may_read c.args.self.now.clock.now) pool (g.Y.Yard.told c.args.self.now.yard.now) c.args.slot.number got put turn) (stage.Raced arm._task arm.raced) holds at in
    let back = c.come_back.ensures in
    let silent : (world_at (g.F.Files.told c.come_back.new.self.files.now) (g.F.Files.faults c.come_back.new.self.files.now) (g.F.Files.blamed c.come_back.new.self.files.now) (g.S.Sink.taken c.come_back.new.self.out.now) (g.S.Sink.faults c.come_back.new.self.out.now) (g.S.Sink.ended c.come_back.new.self.out.now) (yard_at (g.Y.Yard.told c.come_back.new.self.yard.now) (g.Y.Yard.started c.come_back.new.self.yard.now) (counts_at (g.Y.Yard.start_faults c.come_back.new.self.yard.now) (g.Y.Yard.read_faults c.come_back.new.self.yard.now) (g.Y.Yard.hold_faults c.come_back.new.self.yard.now)))) ≡ with_yard (world_at (g.F.Files.told c.args.self.now.files.now) (g.F.Files.faults c.args.self.now.files.now) (g.F.Files.blamed c.args.self.now.files.now) (g.S.Sink.taken c.args.self.now.out.now) (g.S.Sink.faults c.args.self.now.out.now) (g.S.Sink.ended c.args.self.now.out.now) (yard_at (g.Y.Yard.told c.args.self.now.yard.now) (g.Y.Yard.started c.args.self.now.yard.now) (counts_at (g.Y.Yard.start_faults c.args.self.now.yard.now) (g.Y.Yard.read_faults c.args.self.now.yard.now) (g.Y.Yard.hold_faults c.args.self.now.yard.now)))) (world_at (g.F.Files.told c.come_back.new.self.files.now) (g.F.Files.faults c.come_back.new.self.files.now) (g.F.Files.blamed c.come_back.new.self.files.now) (g.S.Sink.taken c.come_back.new.self.out.now) (g.S.Sink.faults c.come_back.new.self.out.now) (g.S.Sink.ended c.come_back.new.self.out.now) (yard_at (g.Y.Yard.told c.come_back.new.self.yard.now) (g.Y.Yard.started c.come_back.new.self.yard.now) (counts_at (g.Y.Yard.start_faults c.come_back.new.self.yard.now) (g.Y.Yard.read_faults c.come_back.new.self.yard.now) (g.Y.Yard.hold_faults c.come_back.new.self.yard.now)))).yard = rw (back.files, back.out) refl in
    subst (λ (t : Turn). TurnUntold (g.C.Clock.may_read c.args.self.now.clock.now) c.args.slot.number (record { got = got; put = put; pool = Some pool; before = (world_at (g.F.Files.told c.args.self.now.files.now) (g.F.Files.faults c.args.self.now.files.now) (g.F.Files.blamed c.args.self.now.files.now) (g.S.Sink.taken c.args.self.now.out.now) (g.S.Sink.faults c.args.self.now.out.now) (g.S.Sink.ended c.args.self.now.out.now) (yard_at (g.Y.Yard.told c.args.self.now.yard.now) (g.Y.Yard.started c.args.self.now.yard.now) (counts_at (g.Y.Yard.start_faults c.args.self.now.yard.now) (g.Y.Yard.read_faults c.args.self.now.yard.now) (g.Y.Yard.hold_faults c.args.self.now.yard.now)))); after = (world_at (g.F.Files.told c.come_back.new.self.files.now) (g.F.Files.faults c.come_back.new.self.files.now) (g.F.Files.blamed c.come_back.new.self.files.now) (g.S.Sink.taken c.come_back.new.self.out.now) (g.S.Sink.faults c.come_back.new.self.out.now) (g.S.Sink.ended c.come_back.new.self.out.now) (yard_at (g.Y.Yard.told c.come_back.new.self.yard.now) (g.Y.Yard.started c.come_back.new.self.yard.now) (counts_at (g.Y.Yard.start_faults c.come_back.new.self.yard.now) (g.Y.Yard.read_faults c.come_back.new.self.yard.now) (g.Y.Yard.hold_faults c.come_back.new.self.yard.now)))) }) t) (sym held.0)
    (untold_raced (g.C.Clock.may_read c.args.self.now.clock.now) c.args.slot.number got put pool (world_at (g.F.Files.told c.args.self.now.files.now) (g.F.Files.faults c.args.self.now.files.now) (g.F.Files.blamed c.args.self.now.files.now) (g.S.Sink.taken c.args.self.now.out.now) (g.S.Sink.faults c.args.self.now.out.now) (g.S.Sink.ended c.args.self.now.out.now) (yard_at (g.Y.Yard.told c.args.self.now.yard.now) (g.Y.Yard.started c.args.self.now.yard.now) (counts_at (g.Y.Yard.start_faults c.args.self.now.yard.now) (g.Y.Yard.read_faults c.args.self.now.yard.now) (g.Y.Yard.hold_faults c.args.self.now.yard.now)))) (world_at (g.F.Files.told c.come_back.new.self.files.now) (g.F.Files.faults c.come_back.new.self.files.now) (g.F.Files.blamed c.come_back.new.self.files.now) (g.S.Sink.taken c.come_back.new.self.out.now) (g.S.Sink.faults c.come_back.new.self.out.now) (g.S.Sink.ended c.come_back.new.self.out.now) (yard_at (g.Y.Yard.told c.come_back.new.self.yard.now) (g.Y.Yard.started c.come_back.new.self.yard.now) (counts_at (g.Y.Yard.start_faults c.come_back.new.self.yard.now) (g.Y.Yard.read_faults c.come_back.new.self.yard.now) (g.Y.Yard.hold_faults c.come_back.new.self.yard.now)))) (task_seen arm._task) arm.raced.problem c.come_back.result.start c.come_back.result.reports.items held.2
    (back.reports (task_seen arm._task) arm.raced.problem c.args.slot.number (Some pool) put.told held.3.came) silent)

pub returns-in-Some-Refused-clause-untold : goal.returns-in-Some-Refused-clause-untold
returns-in-Some-Refused-clause-untold g c = λ pool got put turn holds.
    let arm = c.in-Some-Refused in
    let at : c.args.slot.stage ≡ Some (stage.Refused arm._name arm._early) = arm.is ∙ ap Some arm.field-0-is in
    let held = held_at c.args.slot (IsAt (back_by g.Y.Bay.Launch.told g.Y.Bay.Launch.start_faults g.Y.Bay.Launch.read_faults g.Y.Bay.Launch.hold_faults) (g.C.Clock.may_read c.args.self.now.clock.now) pool (g.Y.Yard.told c.args.self.now.yard.now) c.args.slot.number got put turn) (stage.Refused arm._name arm._early) holds at in
    subst (λ (t : Turn). TurnUntold (g.C.Clock.may_read c.args.self.now.clock.now) c.args.slot.number (record { got = got; put = put; pool = Some pool; before = (world_at (g.F.Files.told c.args.self.now.files.now) (g.F.Files.faults c.args.self.now.files.now) (g.F.Files.blamed c.args.self.now.files.now) (g.S.Sink.taken c.args.self.now.out.now) (g.S.Sink.faults c.args.self.now.out.now) (g.S.Sink.ended c.args.self.now.out.now) (yard_at (g.Y.Yard.told c.args.self.now.yard.now) (g.Y.Yard.started c.args.self.now.yard.now) (counts_at (g.Y.Yard.start_faults c.args.self.now.yard.now) (g.Y.Yard.read_faults c.args.self.now.yard.now) (g.Y.Yard.hold_faults c.args.self.now.yard.now)))); after = (world_at (g.F.Files.told c.args.self.now.files.now) (g.F.Files.faults c.args.self.now.files.now) (g.F.Files.blamed c.args.self.now.files.now) (g.S.Sink.taken c.args.self.now.out.now) (g.S.Sink.faults c.args.self.now.out.now) (g.S.Sink.ended c.args.self.now.out.now) (yard_at (g.Y.Yard.told c.args.self.now.yard.now) (g.Y.Yard.started c.args.self.now.yard.now) (counts_at (g.Y.Yard.start_faults c.args.self.now.yard.now) (g.Y.Yard.read_faults c.args.self.now.yard.now) (g.Y.Yard.hold_faults c.args.self.now.yard.now)))) }) t) (sym held.0) (held.1, refl)

pub returns-in-Some-Ended-clause-untold : goal.returns-in-Some-Ended-clause-untold
returns-in-Some-Ended-clause-untold g c = λ pool got put turn holds.
    let arm = c.in-Some-Ended in
    let at : c.args.slot.stage ≡ Some (stage.Ended arm._task arm._early) = arm.is ∙ ap Some arm.field-0-is in
    let held = held_at c.args.slot (IsAt (back_by g.Y.Bay.Launch.told g.Y.Bay.Launch.start_faults g.Y.Bay.Launch.read_faults g.Y.Bay.Launch.hold_faults) (g.C.Clock.may_read c.args.self.now.clock.now) pool (g.Y.Yard.told c.args.self.now.yard.now) c.args.slot.number got put turn) (stage.Ended arm._task arm._early) holds at in
    subst (λ (t : Turn). TurnUntold (g.C.Clock.may_read c.args.self.now.clock.now) c.args.slot.number (record { got = got; put = put; pool = Some pool; before = (world_at (g.F.Files.told c.args.self.now.files.now) (g.F.Files.faults c.args.self.now.files.now) (g.F.Files.blamed c.args.self.now.files.now) (g.S.Sink.taken c.args.self.now.out.now) (g.S.Sink.faults c.args.self.now.out.now) (g.S.Sink.ended c.args.self.now.out.now) (yard_at (g.Y.Yard.told c.args.self.now.yard.now) (g.Y.Yard.started c.args.self.now.yard.now) (counts_at (g.Y.Yard.start_faults c.args.self.now.yard.now) (g.Y.Yard.read_faults c.args.self.now.yard.now) (g.Y.Yard.hold_faults c.args.self.now.yard.now)))); after = (world_at (g.F.Files.told c.args.self.now.files.now) (g.F.Files.faults c.args.self.now.files.now) (g.F.Files.blamed c.args.self.now.files.now) (g.S.Sink.taken c.args.self.now.out.now) (g.S.Sink.faults c.args.self.now.out.now) (g.S.Sink.ended c.args.self.now.out.now) (yard_at (g.Y.Yard.told c.args.self.now.yard.now) (g.Y.Yard.started c.args.self.now.yard.now) (counts_at (g.Y.Yard.start_faults c.args.self.now.yard.now) (g.Y.Yard.read_faults c.args.self.now.yard.now) (g.Y.Yard.hold_faults c.args.self.now.yard.now)))) }) t) (sym held.0)
    (untold_early (g.C.Clock.may_read c.args.self.now.clock.now) c.args.slot.number got put pool (world_at (g.F.Files.told c.args.self.now.files.now) (g.F.Files.faults c.args.self.now.files.now) (g.F.Files.blamed c.args.self.now.files.now) (g.S.Sink.taken c.args.self.now.out.now) (g.S.Sink.faults c.args.self.now.out.now) (g.S.Sink.ended c.args.self.now.out.now) (yard_at (g.Y.Yard.told c.args.self.now.yard.now) (g.Y.Yard.started c.args.self.now.yard.now) (counts_at (g.Y.Yard.start_faults c.args.self.now.yard.now) (g.Y.Yard.read_faults c.args.self.now.yard.now) (g.Y.Yard.hold_faults c.args.self.now.yard.now)))) (task_seen arm._task) arm._early held.2)
