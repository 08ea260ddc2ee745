use Rattle.std.proofs.Common.{◌≡◌, ◌∷◌, [], rules, subst, sym}
use Rattle.std.specs.Prelude.{Some, true}
use Rattle.sby_top.specs.Ending.{RunsTo}
use Rattle.sby_top.specs.Ready.{back_by}
use Rattle.sby_top.specs.Turns.{turn_seen}
use Rattle.sby_top.specs.Waiting.{AreSlotted}
use Rattle.sby_top.specs.World.{world_at}
use Rattle.task_race.specs.Bays.{counts_at, yard_at}
use Rattle.sby_top.proofs.SlottedLemmas.{one_slotted}
use Rattle.sby_top.proofs.TurnLemmas.{no_ends}
use Rattle.sby_top.proofs.host.Host.run_only_together.Goals as goal

pub returns-in_default-clause-ran : goal.returns-in_default-clause-ran
returns-in_default-clause-ran g c = no_ends (Some c.args.most) (g.C.Clock.may_read c.args.self.now.clock.now) _ (turn_seen c.args.turn) [] c.out_of_memory.result c.out_of_memory.ensures.rc c.out_of_memory.ensures.ends

pub returns-in_default-with_capacity-clause-ran : goal.returns-in_default-with_capacity-clause-ran
returns-in_default-with_capacity-clause-ran g c =
    let done = c.out_of_memory-in_default-with_capacity in
    no_ends (Some c.args.most) (g.C.Clock.may_read c.args.self.now.clock.now) _ (turn_seen c.args.turn) [] done.result done.ensures.rc done.ensures.ends

pub race_and_show-requires-clause-waiting : goal.race_and_show-requires-clause-waiting
race_and_show-requires-clause-waiting g c = λ lifetimes lives.
    let pool = c.in-Ok.room.pool in
    let e = c.prepare_turn-slot.ensures in
    let pushed : c.push_reserved.new.self.items ≡ c.prepare_turn-slot.result ∷ [] = search rules in
    let waits = one_slotted (back_by g.Y.Bay.Launch.told g.Y.Bay.Launch.start_faults g.Y.Bay.Launch.read_faults g.Y.Bay.Launch.hold_faults) (g.C.Clock.may_read c.args.self.now.clock.now) pool (world_at (g.F.Files.told c.args.self.now.files.now) (g.F.Files.faults c.args.self.now.files.now) (g.F.Files.blamed c.args.self.now.files.now) (g.S.Sink.taken c.args.self.now.out.now) (g.S.Sink.faults c.args.self.now.out.now) (g.S.Sink.ended c.args.self.now.out.now) (yard_at (g.Y.Yard.told c.args.self.now.yard.now) (g.Y.Yard.started c.args.self.now.yard.now) (counts_at (g.Y.Yard.start_faults c.args.self.now.yard.now) (g.Y.Yard.read_faults c.args.self.now.yard.now) (g.Y.Yard.hold_faults c.args.self.now.yard.now)))) (world_at (g.F.Files.told c.prepare_turn-slot.new.self.files.now) (g.F.Files.faults c.prepare_turn-slot.new.self.files.now) (g.F.Files.blamed c.prepare_turn-slot.new.self.files.now) (g.S.Sink.taken c.prepare_turn-slot.new.self.out.now) (g.S.Sink.faults c.prepare_turn-slot.new.self.out.now) (g.S.Sink.ended c.prepare_turn-slot.new.self.out.now) (yard_at (g.Y.Yard.told c.prepare_turn-slot.new.self.yard.now) (g.Y.Yard.started c.prepare_turn-slot.new.self.yard.now) (counts_at (g.Y.Yard.start_faults c.prepare_turn-slot.new.self.yard.now) (g.Y.Yard.read_faults c.prepare_turn-slot.new.self.yard.now) (g.Y.Yard.hold_faults c.prepare_turn-slot.new.self.yard.now)))) (turn_seen c.args.turn) c.prepare_turn-slot.result c.push_reserved.new.self.items pushed e.number (e.at pool c.of-allowance.ensures) e.spared e.silent in
    let slotted = subst (λ (k : g.row.C.Denot). AreSlotted (back_by g.Y.Bay.Launch.told g.Y.Bay.Launch.start_faults g.Y.Bay.Launch.read_faults g.Y.Bay.Launch.hold_faults) (g.C.Clock.may_read k) pool (world_at (g.F.Files.told c.args.self.now.files.now) (g.F.Files.faults c.args.self.now.files.now) (g.F.Files.blamed c.args.self.now.files.now) (g.S.Sink.taken c.args.self.now.out.now) (g.S.Sink.faults c.args.self.now.out.now) (g.S.Sink.ended c.args.self.now.out.now) (yard_at (g.Y.Yard.told c.args.self.now.yard.now) (g.Y.Yard.started c.args.self.now.yard.now) (counts_at (g.Y.Yard.start_faults c.args.self.now.yard.now) (g.Y.Yard.read_faults c.args.self.now.yard.now) (g.Y.Yard.hold_faults c.args.self.now.yard.now)))) (world_at (g.F.Files.told c.prepare_turn-slot.new.self.files.now) (g.F.Files.faults c.prepare_turn-slot.new.self.files.now) (g.F.Files.blamed c.prepare_turn-slot.new.self.files.now) (g.S.Sink.taken c.prepare_turn-slot.new.self.out.now) (g.S.Sink.faults c.prepare_turn-slot.new.self.out.now) (g.S.Sink.ended c.prepare_turn-slot.new.self.out.now) (yard_at (g.Y.Yard.told c.prepare_turn-slot.new.self.yard.now) (g.Y.Yard.started c.prepare_turn-slot.new.self.yard.now) (counts_at (g.Y.Yard.start_faults c.prepare_turn-slot.new.self.yard.now) (g.Y.Yard.read_faults c.prepare_turn-slot.new.self.yard.now) (g.Y.Yard.hold_faults c.prepare_turn-slot.new.self.yard.now)))) (turn_seen c.args.turn ∷ []) true c.push_reserved.new.self.items) (sym e.keeps.3) waits in
    (pool, (world_at (g.F.Files.told c.args.self.now.files.now) (g.F.Files.faults c.args.self.now.files.now) (g.F.Files.blamed c.args.self.now.files.now) (g.S.Sink.taken c.args.self.now.out.now) (g.S.Sink.faults c.args.self.now.out.now) (g.S.Sink.ended c.args.self.now.out.now) (yard_at (g.Y.Yard.told c.args.self.now.yard.now) (g.Y.Yard.started c.args.self.now.yard.now) (counts_at (g.Y.Yard.start_faults c.args.self.now.yard.now) (g.Y.Yard.read_faults c.args.self.now.yard.now) (g.Y.Yard.hold_faults c.args.self.now.yard.now)))), turn_seen c.args.turn ∷ [], slotted)

pub returns-clause-ran : goal.returns-clause-ran
returns-clause-ran g c =
    let pool = c.in-Ok.room.pool in
    let e = c.prepare_turn-slot.ensures in
    let pushed : c.push_reserved.new.self.items ≡ c.prepare_turn-slot.result ∷ [] = search rules in
    let waits = one_slotted (back_by g.Y.Bay.Launch.told g.Y.Bay.Launch.start_faults g.Y.Bay.Launch.read_faults g.Y.Bay.Launch.hold_faults) (g.C.Clock.may_read c.args.self.now.clock.now) pool (world_at (g.F.Files.told c.args.self.now.files.now) (g.F.Files.faults c.args.self.now.files.now) (g.F.Files.blamed c.args.self.now.files.now) (g.S.Sink.taken c.args.self.now.out.now) (g.S.Sink.faults c.args.self.now.out.now) (g.S.Sink.ended c.args.self.now.out.now) (yard_at (g.Y.Yard.told c.args.self.now.yard.now) (g.Y.Yard.started c.args.self.now.yard.now) (counts_at (g.Y.Yard.start_faults c.args.self.now.yard.now) (g.Y.Yard.read_faults c.args.self.now.yard.now) (g.Y.Yard.hold_faults c.args.self.now.yard.now)))) (world_at (g.F.Files.told c.prepare_turn-slot.new.self.files.now) (g.F.Files.faults c.prepare_turn-slot.new.self.files.now) (g.F.Files.blamed c.prepare_turn-slot.new.self.files.now) (g.S.Sink.taken c.prepare_turn-slot.new.self.out.now) (g.S.Sink.faults c.prepare_turn-slot.new.self.out.now) (g.S.Sink.ended c.prepare_turn-slot.new.self.out.now) (yard_at (g.Y.Yard.told c.prepare_turn-slot.new.self.yard.now) (g.Y.Yard.started c.prepare_turn-slot.new.self.yard.now) (counts_at (g.Y.Yard.start_faults c.prepare_turn-slot.new.self.yard.now) (g.Y.Yard.read_faults c.prepare_turn-slot.new.self.yard.now) (g.Y.Yard.hold_faults c.prepare_turn-slot.new.self.yard.now)))) (turn_seen c.args.turn) c.prepare_turn-slot.result c.push_reserved.new.self.items pushed e.number (e.at pool c.of-allowance.ensures) e.spared e.silent in
    let slotted = subst (λ (k : g.row.C.Denot). AreSlotted (back_by g.Y.Bay.Launch.told g.Y.Bay.Launch.start_faults g.Y.Bay.Launch.read_faults g.Y.Bay.Launch.hold_faults) (g.C.Clock.may_read k) pool (world_at (g.F.Files.told c.args.self.now.files.now) (g.F.Files.faults c.args.self.now.files.now) (g.F.Files.blamed c.args.self.now.files.now) (g.S.Sink.taken c.args.self.now.out.now) (g.S.Sink.faults c.args.self.now.out.now) (g.S.Sink.ended c.args.self.now.out.now) (yard_at (g.Y.Yard.told c.args.self.now.yard.now) (g.Y.Yard.started c.args.self.now.yard.now) (counts_at (g.Y.Yard.start_faults c.args.self.now.yard.now) (g.Y.Yard.read_faults c.args.self.now.yard.now) (g.Y.Yard.hold_faults c.args.self.now.yard.now)))) (world_at (g.F.Files.told c.prepare_turn-slot.new.self.files.now) (g.F.Files.faults c.prepare_turn-slot.new.self.files.now) (g.F.Files.blamed c.prepare_turn-slot.new.self.files.now) (g.S.Sink.taken c.prepare_turn-slot.new.self.out.now) (g.S.Sink.faults c.prepare_turn-slot.new.self.out.now) (g.S.Sink.ended c.prepare_turn-slot.new.self.out.now) (yard_at (g.Y.Yard.told c.prepare_turn-slot.new.self.yard.now) (g.Y.Yard.started c.prepare_turn-slot.new.self.yard.now) (counts_at (g.Y.Yard.start_faults c.prepare_turn-slot.new.self.yard.now) (g.Y.Yard.read_faults c.prepare_turn-slot.new.self.yard.now) (g.Y.Yard.hold_faults c.prepare_turn-slot.new.self.yard.now)))) (turn_seen c.args.turn ∷ []) true c.push_reserved.new.self.items) (sym e.keeps.3) waits in
    let ran = c.race_and_show.ensures.ran pool (world_at (g.F.Files.told c.args.self.now.files.now) (g.F.Files.faults c.args.self.now.files.now) (g.F.Files.blamed c.args.self.now.files.now) (g.S.Sink.taken c.args.self.now.out.now) (g.S.Sink.faults c.args.self.now.out.now) (g.S.Sink.ended c.args.self.now.out.now) (yard_at (g.Y.Yard.told c.args.self.now.yard.now) (g.Y.Yard.started c.args.self.now.yard.now) (counts_at (g.Y.Yard.start_faults c.args.self.now.yard.now) (g.Y.Yard.read_faults c.args.self.now.yard.now) (g.Y.Yard.hold_faults c.args.self.now.yard.now)))) (turn_seen c.args.turn ∷ []) slotted in
    subst (λ n. RunsTo (Some n) (g.C.Clock.may_read c.args.self.now.clock.now) (world_at (g.F.Files.told c.args.self.now.files.now) (g.F.Files.faults c.args.self.now.files.now) (g.F.Files.blamed c.args.self.now.files.now) (g.S.Sink.taken c.args.self.now.out.now) (g.S.Sink.faults c.args.self.now.out.now) (g.S.Sink.ended c.args.self.now.out.now) (yard_at (g.Y.Yard.told c.args.self.now.yard.now) (g.Y.Yard.started c.args.self.now.yard.now) (counts_at (g.Y.Yard.start_faults c.args.self.now.yard.now) (g.Y.Yard.read_faults c.args.self.now.yard.now) (g.Y.Yard.hold_faults c.args.self.now.yard.now)))) (turn_seen c.args.turn ∷ []) (world_at (g.F.Files.told c.race_and_show.new.self.files.now) (g.F.Files.faults c.race_and_show.new.self.files.now) (g.F.Files.blamed c.race_and_show.new.self.files.now) (g.S.Sink.taken c.race_and_show.new.self.out.now) (g.S.Sink.faults c.race_and_show.new.self.out.now) (g.S.Sink.ended c.race_and_show.new.self.out.now) (yard_at (g.Y.Yard.told c.race_and_show.new.self.yard.now) (g.Y.Yard.started c.race_and_show.new.self.yard.now) (counts_at (g.Y.Yard.start_faults c.race_and_show.new.self.yard.now) (g.Y.Yard.read_faults c.race_and_show.new.self.yard.now) (g.Y.Yard.hold_faults c.race_and_show.new.self.yard.now)))) c.race_and_show.result) c.in-Ok.ensures.pool.0
    (subst (λ (k : g.row.C.Denot). RunsTo (Some pool.most) (g.C.Clock.may_read k) (world_at (g.F.Files.told c.args.self.now.files.now) (g.F.Files.faults c.args.self.now.files.now) (g.F.Files.blamed c.args.self.now.files.now) (g.S.Sink.taken c.args.self.now.out.now) (g.S.Sink.faults c.args.self.now.out.now) (g.S.Sink.ended c.args.self.now.out.now) (yard_at (g.Y.Yard.told c.args.self.now.yard.now) (g.Y.Yard.started c.args.self.now.yard.now) (counts_at (g.Y.Yard.start_faults c.args.self.now.yard.now) (g.Y.Yard.read_faults c.args.self.now.yard.now) (g.Y.Yard.hold_faults c.args.self.now.yard.now)))) (turn_seen c.args.turn ∷ []) (world_at (g.F.Files.told c.race_and_show.new.self.files.now) (g.F.Files.faults c.race_and_show.new.self.files.now) (g.F.Files.blamed c.race_and_show.new.self.files.now) (g.S.Sink.taken c.race_and_show.new.self.out.now) (g.S.Sink.faults c.race_and_show.new.self.out.now) (g.S.Sink.ended c.race_and_show.new.self.out.now) (yard_at (g.Y.Yard.told c.race_and_show.new.self.yard.now) (g.Y.Yard.started c.race_and_show.new.self.yard.now) (counts_at (g.Y.Yard.start_faults c.race_and_show.new.self.yard.now) (g.Y.Yard.read_faults c.race_and_show.new.self.yard.now) (g.Y.Yard.hold_faults c.race_and_show.new.self.yard.now)))) c.race_and_show.result) e.keeps.3 ran)
