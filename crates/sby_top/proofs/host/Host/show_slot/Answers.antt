use Rattle.std.proofs.Common.{◌≡◌, ◌∙◌, ap, sym, subst}
use Rattle.std.specs.Prelude.{Some, string_bytes}
use Rattle.sby_top.specs.End.{exit_seen}
use Rattle.sby_top.specs.Ready.{back_by}
use Rattle.sby_top.specs.Run.{TurnRan}
use Rattle.sby_top.specs.Turns.{Turn}
use Rattle.sby_top.specs.Waiting.{IsAt}
use Rattle.sby_top.specs.World.{world_at}
use Rattle.sby_top.specs.declared.slot.Stage.TheVariants as stage
use Rattle.task_race.specs.Bays.{counts_at, yard_at}
use Rattle.sby_top.proofs.TogetherLemmas.{held_at, shown_refused}
use Rattle.sby_top.proofs.host.Host.show_slot.Goals as goal

pub returns-in-Some-Refused-clause-ran : goal.returns-in-Some-Refused-clause-ran
returns-in-Some-Refused-clause-ran g c = λ pool got put turn holds.
    let arm = c.in-Some-Refused in
    let at : c.args.slot.stage ≡ Some (stage.Refused arm.name arm.early) = arm.is ∙ ap Some arm.field-0-is in
    let held = held_at c.args.slot (IsAt (back_by g.Y.Bay.Launch.told g.Y.Bay.Launch.start_faults g.Y.Bay.Launch.read_faults g.Y.Bay.Launch.hold_faults) (g.C.Clock.may_read c.args.self.now.clock.now) pool (g.Y.Yard.told c.args.self.now.yard.now) c.args.slot.number got put turn) (stage.Refused arm.name arm.early) holds at in
    shown_refused (g.C.Clock.may_read c.args.self.now.clock.now) c.args.slot.number got put pool _ _ turn (string_bytes arm.name) arm.early c.refuse.result.0 (exit_seen c.refuse.result.1) held.0 held.1 (c.refuse.ensures _ _ _ _ got (Some pool))

pub show_early-requires-clause-askable : goal.show_early-requires-clause-askable
show_early-requires-clause-askable g c = λ lifetimes lives.
    let arm = c.in-Some-Ended in
    let at : c.args.slot.stage ≡ Some (stage.Ended arm.task arm.early) = arm.is ∙ ap Some arm.field-0-is in
    let held = held_at c.args.slot (IsAt (back_by g.Y.Bay.Launch.told g.Y.Bay.Launch.start_faults g.Y.Bay.Launch.read_faults g.Y.Bay.Launch.hold_faults) (g.C.Clock.may_read c.args.self.now.clock.now) c.requires.0 (g.Y.Yard.told c.args.self.now.yard.now) c.args.slot.number c.requires.1 c.requires.2 c.requires.3) (stage.Ended arm.task arm.early) c.requires.4 at in
    held.1

pub returns-in-Some-Ended-clause-ran : goal.returns-in-Some-Ended-clause-ran
returns-in-Some-Ended-clause-ran g c = λ pool got put turn holds.
    let arm = c.in-Some-Ended in
    let at : c.args.slot.stage ≡ Some (stage.Ended arm.task arm.early) = arm.is ∙ ap Some arm.field-0-is in
    let held = held_at c.args.slot (IsAt (back_by g.Y.Bay.Launch.told g.Y.Bay.Launch.start_faults g.Y.Bay.Launch.read_faults g.Y.Bay.Launch.hold_faults) (g.C.Clock.may_read c.args.self.now.clock.now) pool (g.Y.Yard.told c.args.self.now.yard.now) c.args.slot.number got put turn) (stage.Ended arm.task arm.early) holds at in
    subst (λ (t : Turn). TurnRan (g.C.Clock.may_read c.args.self.now.clock.now) c.args.slot.number (record { got = got; put = put; pool = Some pool; before = (world_at (g.F.Files.told c.args.self.now.files.now) (g.F.Files.faults c.args.self.now.files.now) (g.F.Files.blamed c.args.self.now.files.now) (g.S.Sink.taken c.args.self.now.out.now) (g.S.Sink.faults c.args.self.now.out.now) (g.S.Sink.ended c.args.self.now.out.now) (yard_at (g.Y.Yard.told c.args.self.now.yard.now) (g.Y.Yard.started c.args.self.now.yard.now) (counts_at (g.Y.Yard.start_faults c.args.self.now.yard.now) (g.Y.Yard.read_faults c.args.self.now.yard.now) (g.Y.Yard.hold_faults c.args.self.now.yard.now)))); after = (world_at (g.F.Files.told c.show_early.new.self.files.now) (g.F.Files.faults c.show_early.new.self.files.now) (g.F.Files.blamed c.show_early.new.self.files.now) (g.S.Sink.taken c.show_early.new.self.out.now) (g.S.Sink.faults c.show_early.new.self.out.now) (g.S.Sink.ended c.show_early.new.self.out.now) (yard_at (g.Y.Yard.told c.show_early.new.self.yard.now) (g.Y.Yard.started c.show_early.new.self.yard.now) (counts_at (g.Y.Yard.start_faults c.show_early.new.self.yard.now) (g.Y.Yard.read_faults c.show_early.new.self.yard.now) (g.Y.Yard.hold_faults c.show_early.new.self.yard.now)))) }) t c.show_early.result.0 (exit_seen c.show_early.result.1)) (sym held.0) (c.show_early.ensures.ran got put (Some pool) held.2 held.3)

pub returns-in-Some-Ended-clause-scripts : goal.returns-in-Some-Ended-clause-scripts
returns-in-Some-Ended-clause-scripts g c =
    let arm = c.in-Some-Ended in
    let at : c.args.slot.stage ≡ Some (stage.Ended arm.task arm.early) = arm.is ∙ ap Some arm.field-0-is in
    let held = held_at c.args.slot (IsAt (back_by g.Y.Bay.Launch.told g.Y.Bay.Launch.start_faults g.Y.Bay.Launch.read_faults g.Y.Bay.Launch.hold_faults) (g.C.Clock.may_read c.args.self.now.clock.now) c.requires.0 (g.Y.Yard.told c.args.self.now.yard.now) c.args.slot.number c.requires.1 c.requires.2 c.requires.3) (stage.Ended arm.task arm.early) c.requires.4 at in
    (c.show_early.ensures.ran c.requires.1 c.requires.2 (Some c.requires.0) held.2 held.3).later.scripts

pub show_task-requires-clause-askable : goal.show_task-requires-clause-askable
show_task-requires-clause-askable g c = λ lifetimes lives.
    let arm = c.in-Some-Raced in
    let at : c.args.slot.stage ≡ Some (stage.Raced arm.task arm.raced) = arm.is ∙ ap Some arm.field-0-is in
    let held = held_at c.args.slot (IsAt (back_by g.Y.Bay.Launch.told g.Y.Bay.Launch.start_faults g.Y.Bay.Launch.read_faults g.Y.Bay.Launch.hold_faults) (g.C.Clock.may_read c.args.self.now.clock.now) c.requires.0 (g.Y.Yard.told c.args.self.now.yard.now) c.args.slot.number c.requires.1 c.requires.2 c.requires.3) (stage.Raced arm.task arm.raced) c.requires.4 at in
    held.1

pub show_task-requires-clause-raced : goal.show_task-requires-clause-raced
show_task-requires-clause-raced g c = λ lifetimes lives.
    let arm = c.in-Some-Raced in
    let at : c.args.slot.stage ≡ Some (stage.Raced arm.task arm.raced) = arm.is ∙ ap Some arm.field-0-is in
    let held = held_at c.args.slot (IsAt (back_by g.Y.Bay.Launch.told g.Y.Bay.Launch.start_faults g.Y.Bay.Launch.read_faults g.Y.Bay.Launch.hold_faults) (g.C.Clock.may_read c.args.self.now.clock.now) c.requires.0 (g.Y.Yard.told c.args.self.now.yard.now) c.args.slot.number c.requires.1 c.requires.2 c.requires.3) (stage.Raced arm.task arm.raced) c.requires.4 at in
    (Some c.requires.0, c.requires.2.told, held.3)

pub returns-in-Some-Raced-clause-ran : goal.returns-in-Some-Raced-clause-ran
returns-in-Some-Raced-clause-ran g c = λ pool got put turn holds.
    let arm = c.in-Some-Raced in
    let at : c.args.slot.stage ≡ Some (stage.Raced arm.task arm.raced) = arm.is ∙ ap Some arm.field-0-is in
    let held = held_at c.args.slot (IsAt (back_by g.Y.Bay.Launch.told g.Y.Bay.Launch.start_faults g.Y.Bay.Launch.read_faults g.Y.Bay.Launch.hold_faults) (g.C.Clock.may_read c.args.self.now.clock.now) pool (g.Y.Yard.told c.args.self.now.yard.now) c.args.slot.number got put turn) (stage.Raced arm.task arm.raced) holds at in
    subst (λ (t : Turn). TurnRan (g.C.Clock.may_read c.args.self.now.clock.now) c.args.slot.number (record { got = got; put = put; pool = Some pool; before = (world_at (g.F.Files.told c.args.self.now.files.now) (g.F.Files.faults c.args.self.now.files.now) (g.F.Files.blamed c.args.self.now.files.now) (g.S.Sink.taken c.args.self.now.out.now) (g.S.Sink.faults c.args.self.now.out.now) (g.S.Sink.ended c.args.self.now.out.now) (yard_at (g.Y.Yard.told c.args.self.now.yard.now) (g.Y.Yard.started c.args.self.now.yard.now) (counts_at (g.Y.Yard.start_faults c.args.self.now.yard.now) (g.Y.Yard.read_faults c.args.self.now.yard.now) (g.Y.Yard.hold_faults c.args.self.now.yard.now)))); after = (world_at (g.F.Files.told c.show_task.new.self.files.now) (g.F.Files.faults c.show_task.new.self.files.now) (g.F.Files.blamed c.show_task.new.self.files.now) (g.S.Sink.taken c.show_task.new.self.out.now) (g.S.Sink.faults c.show_task.new.self.out.now) (g.S.Sink.ended c.show_task.new.self.out.now) (yard_at (g.Y.Yard.told c.show_task.new.self.yard.now) (g.Y.Yard.started c.show_task.new.self.yard.now) (counts_at (g.Y.Yard.start_faults c.show_task.new.self.yard.now) (g.Y.Yard.read_faults c.show_task.new.self.yard.now) (g.Y.Yard.hold_faults c.show_task.new.self.yard.now)))) }) t c.show_task.result.0 (exit_seen c.show_task.result.1)) (sym held.0) (c.show_task.ensures.ran got put (Some pool) held.2 held.3)

pub returns-in-Some-Raced-clause-scripts : goal.returns-in-Some-Raced-clause-scripts
returns-in-Some-Raced-clause-scripts g c =
    let arm = c.in-Some-Raced in
    let at : c.args.slot.stage ≡ Some (stage.Raced arm.task arm.raced) = arm.is ∙ ap Some arm.field-0-is in
    let held = held_at c.args.slot (IsAt (back_by g.Y.Bay.Launch.told g.Y.Bay.Launch.start_faults g.Y.Bay.Launch.read_faults g.Y.Bay.Launch.hold_faults) (g.C.Clock.may_read c.args.self.now.clock.now) c.requires.0 (g.Y.Yard.told c.args.self.now.yard.now) c.args.slot.number c.requires.1 c.requires.2 c.requires.3) (stage.Raced arm.task arm.raced) c.requires.4 at in
    (c.show_task.ensures.ran c.requires.1 c.requires.2 (Some c.requires.0) held.2 held.3).later.scripts
