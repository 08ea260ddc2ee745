use Rattle.std.proofs.Common.{arith, map, subst, sym}
use Rattle.std.specs.Prelude.{Some, option_map, string_bytes}
use Rattle.std.proofs.lemmas.List.{length-map}
use Rattle.sby_top.specs.Ending.{RunsTo}
use Rattle.sby_top.specs.Ready.{back_by}
use Rattle.sby_top.specs.Waiting.{AreSlotted}
use Rattle.sby_top.specs.World.{World, world_at}
use Rattle.task_race.specs.Bays.{counts_at, yard_at}
use Rattle.sby_top.proofs.TurnLemmas.{RanAsked, asked_names, none_asked}
use Rattle.sby_top.proofs.host.Host.run_together.Goals as goal

pub returns-in_default-clause-ran : goal.returns-in_default-clause-ran
returns-in_default-clause-ran g c = none_asked (Some c.args.most) (g.C.Clock.may_read c.args.self.now.clock.now) _ c.args.book.now.stem.now (option_map (λ s. s.now) c.args.book.now.directory) c.args.book.now.config.now (asked_names c.args.names.now) c.out_of_memory.result
    (omega (arith, c.requires, length-map (map string_bytes c.args.names.now) (λ x. Some x), length-map c.args.names.now string_bytes)) c.out_of_memory.ensures.rc c.out_of_memory.ensures.ends

pub returns-in_default-prepare_all-clause-ran : goal.returns-in_default-prepare_all-clause-ran
returns-in_default-prepare_all-clause-ran g c =
    let done = c.out_of_memory-in_default-prepare_all in
    subst (λ (w : World). RanAsked (Some c.args.most) (g.C.Clock.may_read c.args.self.now.clock.now) (world_at (g.F.Files.told c.args.self.now.files.now) (g.F.Files.faults c.args.self.now.files.now) (g.F.Files.blamed c.args.self.now.files.now) (g.S.Sink.taken c.args.self.now.out.now) (g.S.Sink.faults c.args.self.now.out.now) (g.S.Sink.ended c.args.self.now.out.now) (yard_at (g.Y.Yard.told c.args.self.now.yard.now) (g.Y.Yard.started c.args.self.now.yard.now) (counts_at (g.Y.Yard.start_faults c.args.self.now.yard.now) (g.Y.Yard.read_faults c.args.self.now.yard.now) (g.Y.Yard.hold_faults c.args.self.now.yard.now)))) w c.args.book.now.stem.now (option_map (λ s. s.now) c.args.book.now.directory) c.args.book.now.config.now (asked_names c.args.names.now) done.result) (sym c.in_default-prepare_all.ensures.err)
    (none_asked (Some c.args.most) (g.C.Clock.may_read c.args.self.now.clock.now) (world_at (g.F.Files.told c.args.self.now.files.now) (g.F.Files.faults c.args.self.now.files.now) (g.F.Files.blamed c.args.self.now.files.now) (g.S.Sink.taken c.args.self.now.out.now) (g.S.Sink.faults c.args.self.now.out.now) (g.S.Sink.ended c.args.self.now.out.now) (yard_at (g.Y.Yard.told c.args.self.now.yard.now) (g.Y.Yard.started c.args.self.now.yard.now) (counts_at (g.Y.Yard.start_faults c.args.self.now.yard.now) (g.Y.Yard.read_faults c.args.self.now.yard.now) (g.Y.Yard.hold_faults c.args.self.now.yard.now)))) c.args.book.now.stem.now (option_map (λ s. s.now) c.args.book.now.directory) c.args.book.now.config.now (asked_names c.args.names.now) done.result
    (omega (arith, c.requires, length-map (map string_bytes c.args.names.now) (λ x. Some x), length-map c.args.names.now string_bytes)) done.ensures.rc done.ensures.ends)

pub returns-clause-ran : goal.returns-clause-ran
returns-clause-ran g c =
    let pool = c.in-Ok.room.pool in
    let made = c.in-Ok-prepare_all in
    let s = made.ensures.slotted in
    let keeps = c.prepare_all.ensures.keeps in
    let slotted = subst (λ (k : g.row.C.Denot). AreSlotted (back_by g.Y.Bay.Launch.told g.Y.Bay.Launch.start_faults g.Y.Bay.Launch.read_faults g.Y.Bay.Launch.hold_faults) (g.C.Clock.may_read k) pool (world_at (g.F.Files.told c.args.self.now.files.now) (g.F.Files.faults c.args.self.now.files.now) (g.F.Files.blamed c.args.self.now.files.now) (g.S.Sink.taken c.args.self.now.out.now) (g.S.Sink.faults c.args.self.now.out.now) (g.S.Sink.ended c.args.self.now.out.now) (yard_at (g.Y.Yard.told c.args.self.now.yard.now) (g.Y.Yard.started c.args.self.now.yard.now) (counts_at (g.Y.Yard.start_faults c.args.self.now.yard.now) (g.Y.Yard.read_faults c.args.self.now.yard.now) (g.Y.Yard.hold_faults c.args.self.now.yard.now)))) (world_at (g.F.Files.told c.prepare_all.new.self.files.now) (g.F.Files.faults c.prepare_all.new.self.files.now) (g.F.Files.blamed c.prepare_all.new.self.files.now) (g.S.Sink.taken c.prepare_all.new.self.out.now) (g.S.Sink.faults c.prepare_all.new.self.out.now) (g.S.Sink.ended c.prepare_all.new.self.out.now) (yard_at (g.Y.Yard.told c.prepare_all.new.self.yard.now) (g.Y.Yard.started c.prepare_all.new.self.yard.now) (counts_at (g.Y.Yard.start_faults c.prepare_all.new.self.yard.now) (g.Y.Yard.read_faults c.prepare_all.new.self.yard.now) (g.Y.Yard.hold_faults c.prepare_all.new.self.yard.now)))) s.0 made.is_all made.slots.items) (sym keeps.3) s.2 in
    let ran = c.race_and_show.ensures.ran pool (world_at (g.F.Files.told c.args.self.now.files.now) (g.F.Files.faults c.args.self.now.files.now) (g.F.Files.blamed c.args.self.now.files.now) (g.S.Sink.taken c.args.self.now.out.now) (g.S.Sink.faults c.args.self.now.out.now) (g.S.Sink.ended c.args.self.now.out.now) (yard_at (g.Y.Yard.told c.args.self.now.yard.now) (g.Y.Yard.started c.args.self.now.yard.now) (counts_at (g.Y.Yard.start_faults c.args.self.now.yard.now) (g.Y.Yard.read_faults c.args.self.now.yard.now) (g.Y.Yard.hold_faults c.args.self.now.yard.now)))) s.0 slotted in (
      s.0,
      s.1,
      subst (λ n. RunsTo (Some n) (g.C.Clock.may_read c.args.self.now.clock.now) (world_at (g.F.Files.told c.args.self.now.files.now) (g.F.Files.faults c.args.self.now.files.now) (g.F.Files.blamed c.args.self.now.files.now) (g.S.Sink.taken c.args.self.now.out.now) (g.S.Sink.faults c.args.self.now.out.now) (g.S.Sink.ended c.args.self.now.out.now) (yard_at (g.Y.Yard.told c.args.self.now.yard.now) (g.Y.Yard.started c.args.self.now.yard.now) (counts_at (g.Y.Yard.start_faults c.args.self.now.yard.now) (g.Y.Yard.read_faults c.args.self.now.yard.now) (g.Y.Yard.hold_faults c.args.self.now.yard.now)))) s.0 (world_at (g.F.Files.told c.race_and_show.new.self.files.now) (g.F.Files.faults c.race_and_show.new.self.files.now) (g.F.Files.blamed c.race_and_show.new.self.files.now) (g.S.Sink.taken c.race_and_show.new.self.out.now) (g.S.Sink.faults c.race_and_show.new.self.out.now) (g.S.Sink.ended c.race_and_show.new.self.out.now) (yard_at (g.Y.Yard.told c.race_and_show.new.self.yard.now) (g.Y.Yard.started c.race_and_show.new.self.yard.now) (counts_at (g.Y.Yard.start_faults c.race_and_show.new.self.yard.now) (g.Y.Yard.read_faults c.race_and_show.new.self.yard.now) (g.Y.Yard.hold_faults c.race_and_show.new.self.yard.now)))) c.race_and_show.result) c.in-Ok.ensures.pool.0
          (subst (λ (k : g.row.C.Denot). RunsTo (Some pool.most) (g.C.Clock.may_read k) (world_at (g.F.Files.told c.args.self.now.files.now) (g.F.Files.faults c.args.self.now.files.now) (g.F.Files.blamed c.args.self.now.files.now) (g.S.Sink.taken c.args.self.now.out.now) (g.S.Sink.faults c.args.self.now.out.now) (g.S.Sink.ended c.args.self.now.out.now) (yard_at (g.Y.Yard.told c.args.self.now.yard.now) (g.Y.Yard.started c.args.self.now.yard.now) (counts_at (g.Y.Yard.start_faults c.args.self.now.yard.now) (g.Y.Yard.read_faults c.args.self.now.yard.now) (g.Y.Yard.hold_faults c.args.self.now.yard.now)))) s.0 (world_at (g.F.Files.told c.race_and_show.new.self.files.now) (g.F.Files.faults c.race_and_show.new.self.files.now) (g.F.Files.blamed c.race_and_show.new.self.files.now) (g.S.Sink.taken c.race_and_show.new.self.out.now) (g.S.Sink.faults c.race_and_show.new.self.out.now) (g.S.Sink.ended c.race_and_show.new.self.out.now) (yard_at (g.Y.Yard.told c.race_and_show.new.self.yard.now) (g.Y.Yard.started c.race_and_show.new.self.yard.now) (counts_at (g.Y.Yard.start_faults c.race_and_show.new.self.yard.now) (g.Y.Yard.read_faults c.race_and_show.new.self.yard.now) (g.Y.Yard.hold_faults c.race_and_show.new.self.yard.now)))) c.race_and_show.result) keeps.3 ran),
    )
