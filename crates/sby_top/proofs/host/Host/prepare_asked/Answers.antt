use Rattle.std.proofs.Common.{◌≡◌, ◌∷◌, ◌++◌, ◌∙◌, [], length, subst, rules, arith}
use Rattle.sby_top.specs.Ready.{back_by}
use Rattle.sby_top.specs.Turns.{turn_seen}
use Rattle.sby_top.specs.Waiting.{Holds, IsAt}
use Rattle.sby_top.specs.World.{files_of, world_at}
use Rattle.task_race.specs.Bays.{counts_at, yard_at}
use Rattle.sby_top.proofs.host.Host.prepare_asked.Goals as goal

pub returns-clause-slotted : goal.returns-clause-slotted
returns-clause-slotted g c = λ pool is.
    let pushed : c.push_reserved.new.self.items ≡ c.args.slots.now.items ++ c.prepare_turn-slot.result ∷ [] = search rules in
    let same : c.in-Ok-Ok.number ≡ length c.args.slots.now.items = omega (arith, c.in-Ok-Ok.ensures, c.len.ensures) in
    let e = c.prepare_turn-slot.ensures in (
      turn_seen c.in-Ok-Ok.turn,
      c.prepare_turn-slot.result,
      c.in-Ok-Ok.ensures'.turn,
      pushed,
      e.number ∙ same,
      subst (λ n. Holds c.prepare_turn-slot.result (IsAt (back_by g.Y.Bay.Launch.told g.Y.Bay.Launch.start_faults g.Y.Bay.Launch.read_faults g.Y.Bay.Launch.hold_faults) (g.C.Clock.may_read c.args.self.now.clock.now) pool (g.Y.Yard.told c.args.self.now.yard.now) n
          (files_of (world_at (g.F.Files.told c.args.self.now.files.now) (g.F.Files.faults c.args.self.now.files.now) (g.F.Files.blamed c.args.self.now.files.now) (g.S.Sink.taken c.args.self.now.out.now) (g.S.Sink.faults c.args.self.now.out.now) (g.S.Sink.ended c.args.self.now.out.now) (yard_at (g.Y.Yard.told c.args.self.now.yard.now) (g.Y.Yard.started c.args.self.now.yard.now) (counts_at (g.Y.Yard.start_faults c.args.self.now.yard.now) (g.Y.Yard.read_faults c.args.self.now.yard.now) (g.Y.Yard.hold_faults c.args.self.now.yard.now)))))
          (files_of (world_at (g.F.Files.told c.prepare_turn-slot.new.self.files.now) (g.F.Files.faults c.prepare_turn-slot.new.self.files.now) (g.F.Files.blamed c.prepare_turn-slot.new.self.files.now) (g.S.Sink.taken c.prepare_turn-slot.new.self.out.now) (g.S.Sink.faults c.prepare_turn-slot.new.self.out.now) (g.S.Sink.ended c.prepare_turn-slot.new.self.out.now) (yard_at (g.Y.Yard.told c.prepare_turn-slot.new.self.yard.now) (g.Y.Yard.started c.prepare_turn-slot.new.self.yard.now) (counts_at (g.Y.Yard.start_faults c.prepare_turn-slot.new.self.yard.now) (g.Y.Yard.read_faults c.prepare_turn-slot.new.self.yard.now) (g.Y.Yard.hold_faults c.prepare_turn-slot.new.self.yard.now)))))
          (turn_seen c.in-Ok-Ok.turn))) same (e.at pool is),
      e.spared,
      e.silent,
    )
