use Rattle.std.proofs.Common.{◌≡◌, ◌≤◌, ◌++◌, All, List, arith, drop, length, subst, sym, take}
use Rattle.std.specs.Prelude.{vec_capacity}
use Rattle.sby_top.specs.Ready.{back_by}
use Rattle.sby_top.specs.Waiting.{AreSlotted, AreWaiting, Holds, IsOver}
use Rattle.sby_top.specs.World.{files_of, world_at}
use Rattle.sby_top.specs.declared.slot.Slot.{Slot}
use Rattle.task_race.specs.Bays.{counts_at, yard_at}
use Rattle.sby_top.proofs.SlottedLemmas.{first_of}
use Rattle.sby_top.proofs.TogetherLemmas.{slotted_raced}
use Rattle.sby_top.proofs.host.Host.race_and_show.Goals as goal

pub race_slots-requires-after_bounds : goal.race_slots-requires-after_bounds
race_slots-requires-after_bounds g c = λ lifetimes lives.
    let w = c.requires.waiting in (
      w.0,
      w.1.yard.scripts,
      0,
      files_of w.1,
      files_of (world_at (g.F.Files.told c.args.self.now.files.now) (g.F.Files.faults c.args.self.now.files.now) (g.F.Files.blamed c.args.self.now.files.now) (g.S.Sink.taken c.args.self.now.out.now) (g.S.Sink.faults c.args.self.now.out.now) (g.S.Sink.ended c.args.self.now.out.now) (yard_at (g.Y.Yard.told c.args.self.now.yard.now) (g.Y.Yard.started c.args.self.now.yard.now) (counts_at (g.Y.Yard.start_faults c.args.self.now.yard.now) (g.Y.Yard.read_faults c.args.self.now.yard.now) (g.Y.Yard.hold_faults c.args.self.now.yard.now)))),
      take (length c.args.slots.items) w.2,
      subst (λ (ss : List (Slot g.row.Y-Bay.Denot)). AreWaiting (back_by g.Y.Bay.Launch.told g.Y.Bay.Launch.start_faults g.Y.Bay.Launch.read_faults g.Y.Bay.Launch.hold_faults) (g.C.Clock.may_read c.args.self.now.clock.now) w.0 w.1.yard.scripts 0 (files_of w.1) (take (length c.args.slots.items) w.2) (files_of (world_at (g.F.Files.told c.args.self.now.files.now) (g.F.Files.faults c.args.self.now.files.now) (g.F.Files.blamed c.args.self.now.files.now) (g.S.Sink.taken c.args.self.now.out.now) (g.S.Sink.faults c.args.self.now.out.now) (g.S.Sink.ended c.args.self.now.out.now) (yard_at (g.Y.Yard.told c.args.self.now.yard.now) (g.Y.Yard.started c.args.self.now.yard.now) (counts_at (g.Y.Yard.start_faults c.args.self.now.yard.now) (g.Y.Yard.read_faults c.args.self.now.yard.now) (g.Y.Yard.hold_faults c.args.self.now.yard.now))))) ss) (sym c.as_mut_slice.ensures.value) w.3.waiting,
    )

pub show_slots-requires-clause-room : goal.show_slots-requires-clause-room
show_slots-requires-clause-room g c = λ lifetimes lives.
    let now = c.race_slots.new.slots in
    let many : c.args.slots.len ≡ length now = omega arith in
    let whole : take c.args.slots.len (now ++ drop (length now) c.args.slots.items) ≡ now = first_of now (drop (length now) c.args.slots.items) c.args.slots.len (sym many) in
    subst (λ (ss : List (Slot g.row.Y-Bay.Denot)). length ss ≤ vec_capacity c.args.ends) (sym whole) (omega (arith, many, c.requires.room))

pub show_slots-requires-clause-waiting : goal.show_slots-requires-clause-waiting
show_slots-requires-clause-waiting g c = λ lifetimes lives.
    let w = c.requires.waiting in
    let now = c.race_slots.new.slots in
    let many : c.args.slots.len ≡ length now = omega arith in
    let whole : take c.args.slots.len (now ++ drop (length now) c.args.slots.items) ≡ now = first_of now (drop (length now) c.args.slots.items) c.args.slots.len (sym many) in
    let raced = slotted_raced (back_by g.Y.Bay.Launch.told g.Y.Bay.Launch.start_faults g.Y.Bay.Launch.read_faults g.Y.Bay.Launch.hold_faults) (g.C.Clock.may_read c.args.self.now.clock.now) w.0 w.1 (world_at (g.F.Files.told c.args.self.now.files.now) (g.F.Files.faults c.args.self.now.files.now) (g.F.Files.blamed c.args.self.now.files.now) (g.S.Sink.taken c.args.self.now.out.now) (g.S.Sink.faults c.args.self.now.out.now) (g.S.Sink.ended c.args.self.now.out.now) (yard_at (g.Y.Yard.told c.args.self.now.yard.now) (g.Y.Yard.started c.args.self.now.yard.now) (counts_at (g.Y.Yard.start_faults c.args.self.now.yard.now) (g.Y.Yard.read_faults c.args.self.now.yard.now) (g.Y.Yard.hold_faults c.args.self.now.yard.now)))) w.2 c.args.is_all c.as_mut_slice.result.now now (subst (λ (ss : List (Slot g.row.Y-Bay.Denot)). AreSlotted (back_by g.Y.Bay.Launch.told g.Y.Bay.Launch.start_faults g.Y.Bay.Launch.read_faults g.Y.Bay.Launch.hold_faults) (g.C.Clock.may_read c.args.self.now.clock.now) w.0 w.1 (world_at (g.F.Files.told c.args.self.now.files.now) (g.F.Files.faults c.args.self.now.files.now) (g.F.Files.blamed c.args.self.now.files.now) (g.S.Sink.taken c.args.self.now.out.now) (g.S.Sink.faults c.args.self.now.out.now) (g.S.Sink.ended c.args.self.now.out.now) (yard_at (g.Y.Yard.told c.args.self.now.yard.now) (g.Y.Yard.started c.args.self.now.yard.now) (counts_at (g.Y.Yard.start_faults c.args.self.now.yard.now) (g.Y.Yard.read_faults c.args.self.now.yard.now) (g.Y.Yard.hold_faults c.args.self.now.yard.now)))) w.2 c.args.is_all ss) (sym c.as_mut_slice.ensures.value) w.3)
    (c.race_slots.ensures.waiting w.0) in
    (w.0, w.1, w.2, subst (λ (ss : List (Slot g.row.Y-Bay.Denot)). AreSlotted (back_by g.Y.Bay.Launch.told g.Y.Bay.Launch.start_faults g.Y.Bay.Launch.read_faults g.Y.Bay.Launch.hold_faults) (g.C.Clock.may_read c.args.self.now.clock.now) w.0 w.1 (world_at (g.F.Files.told c.args.self.now.files.now) (g.F.Files.faults c.args.self.now.files.now) (g.F.Files.blamed c.args.self.now.files.now) (g.S.Sink.taken c.args.self.now.out.now) (g.S.Sink.faults c.args.self.now.out.now) (g.S.Sink.ended c.args.self.now.out.now) (yard_at (g.Y.Yard.told c.args.self.now.yard.now) (g.Y.Yard.started c.args.self.now.yard.now) (counts_at (g.Y.Yard.start_faults c.args.self.now.yard.now) (g.Y.Yard.read_faults c.args.self.now.yard.now) (g.Y.Yard.hold_faults c.args.self.now.yard.now)))) w.2 c.args.is_all ss) (sym whole) raced)

pub show_slots-requires-clause-over : goal.show_slots-requires-clause-over
show_slots-requires-clause-over g c = λ lifetimes lives.
    let now = c.race_slots.new.slots in
    let many : c.args.slots.len ≡ length now = omega arith in
    let whole : take c.args.slots.len (now ++ drop (length now) c.args.slots.items) ≡ now = first_of now (drop (length now) c.args.slots.items) c.args.slots.len (sym many) in
    subst (λ (ss : List (Slot g.row.Y-Bay.Denot)). All (λ s. Holds s IsOver) ss) (sym whole) c.race_slots.ensures.over

pub returns-clause-ran : goal.returns-clause-ran
returns-clause-ran g c = λ pool start turns slotted.
    let now = c.race_slots.new.slots in
    let many : c.args.slots.len ≡ length now = omega arith in
    let whole : take c.args.slots.len (now ++ drop (length now) c.args.slots.items) ≡ now = first_of now (drop (length now) c.args.slots.items) c.args.slots.len (sym many) in
    let raced = slotted_raced (back_by g.Y.Bay.Launch.told g.Y.Bay.Launch.start_faults g.Y.Bay.Launch.read_faults g.Y.Bay.Launch.hold_faults) (g.C.Clock.may_read c.args.self.now.clock.now) pool start (world_at (g.F.Files.told c.args.self.now.files.now) (g.F.Files.faults c.args.self.now.files.now) (g.F.Files.blamed c.args.self.now.files.now) (g.S.Sink.taken c.args.self.now.out.now) (g.S.Sink.faults c.args.self.now.out.now) (g.S.Sink.ended c.args.self.now.out.now) (yard_at (g.Y.Yard.told c.args.self.now.yard.now) (g.Y.Yard.started c.args.self.now.yard.now) (counts_at (g.Y.Yard.start_faults c.args.self.now.yard.now) (g.Y.Yard.read_faults c.args.self.now.yard.now) (g.Y.Yard.hold_faults c.args.self.now.yard.now)))) turns c.args.is_all c.as_mut_slice.result.now now (subst (λ (ss : List (Slot g.row.Y-Bay.Denot)). AreSlotted (back_by g.Y.Bay.Launch.told g.Y.Bay.Launch.start_faults g.Y.Bay.Launch.read_faults g.Y.Bay.Launch.hold_faults) (g.C.Clock.may_read c.args.self.now.clock.now) pool start (world_at (g.F.Files.told c.args.self.now.files.now) (g.F.Files.faults c.args.self.now.files.now) (g.F.Files.blamed c.args.self.now.files.now) (g.S.Sink.taken c.args.self.now.out.now) (g.S.Sink.faults c.args.self.now.out.now) (g.S.Sink.ended c.args.self.now.out.now) (yard_at (g.Y.Yard.told c.args.self.now.yard.now) (g.Y.Yard.started c.args.self.now.yard.now) (counts_at (g.Y.Yard.start_faults c.args.self.now.yard.now) (g.Y.Yard.read_faults c.args.self.now.yard.now) (g.Y.Yard.hold_faults c.args.self.now.yard.now)))) turns c.args.is_all ss) (sym c.as_mut_slice.ensures.value) slotted)
    (c.race_slots.ensures.waiting pool) in
    c.show_slots.ensures.ran pool start turns (subst (λ (ss : List (Slot g.row.Y-Bay.Denot)). AreSlotted (back_by g.Y.Bay.Launch.told g.Y.Bay.Launch.start_faults g.Y.Bay.Launch.read_faults g.Y.Bay.Launch.hold_faults) (g.C.Clock.may_read c.args.self.now.clock.now) pool start (world_at (g.F.Files.told c.args.self.now.files.now) (g.F.Files.faults c.args.self.now.files.now) (g.F.Files.blamed c.args.self.now.files.now) (g.S.Sink.taken c.args.self.now.out.now) (g.S.Sink.faults c.args.self.now.out.now) (g.S.Sink.ended c.args.self.now.out.now) (yard_at (g.Y.Yard.told c.args.self.now.yard.now) (g.Y.Yard.started c.args.self.now.yard.now) (counts_at (g.Y.Yard.start_faults c.args.self.now.yard.now) (g.Y.Yard.read_faults c.args.self.now.yard.now) (g.Y.Yard.hold_faults c.args.self.now.yard.now)))) turns c.args.is_all ss) (sym whole) raced)
