use Rattle.std.proofs.Common.{◌≡◌, ◌≤◌, length, map, take}
use Rattle.std.specs.Prelude.{Some, option_map, string_bytes, vec_capacity}
use Rattle.sby_top.specs.Ending.{HaveRun}
use Rattle.sby_top.specs.World.{world_at}
use Rattle.task_race.specs.Bays.{counts_at, yard_at}
use Rattle.sby_top.proofs.host.Host.run_in_turn.Given as goal

abbrev pub invariant-loop-name : goal.invariant-loop-name
invariant-loop-name g l = record {
  had : HaveRun (g.C.Clock.may_read l.fn.self.clock.now) (world_at (g.F.Files.told l.fn.self.files.now) (g.F.Files.faults l.fn.self.files.now) (g.F.Files.blamed l.fn.self.files.now) (g.S.Sink.taken l.fn.self.out.now) (g.S.Sink.faults l.fn.self.out.now) (g.S.Sink.ended l.fn.self.out.now) (yard_at (g.Y.Yard.told l.fn.self.yard.now) (g.Y.Yard.started l.fn.self.yard.now) (counts_at (g.Y.Yard.start_faults l.fn.self.yard.now) (g.Y.Yard.read_faults l.fn.self.yard.now) (g.Y.Yard.hold_faults l.fn.self.yard.now))))
      (world_at (g.F.Files.told l.self.files.now) (g.F.Files.faults l.self.files.now) (g.F.Files.blamed l.self.files.now) (g.S.Sink.taken l.self.out.now) (g.S.Sink.faults l.self.out.now) (g.S.Sink.ended l.self.out.now) (yard_at (g.Y.Yard.told l.self.yard.now) (g.Y.Yard.started l.self.yard.now) (counts_at (g.Y.Yard.start_faults l.self.yard.now) (g.Y.Yard.read_faults l.self.yard.now) (g.Y.Yard.hold_faults l.self.yard.now))))
      l.book.stem.now (option_map (λ s. s.now) l.book.directory) l.book.config.now (map Some (map string_bytes (take l.name-index l.names))) l.done;
  room : length l.names ≤ vec_capacity l.done.ends;
  count : length l.done.ends.items ≤ l.name-index;
  files : l.self.files.ghost_name ≡ l.fn.self.files.ghost_name;
  out : l.self.out.ghost_name ≡ l.fn.self.out.ghost_name;
  yard : l.self.yard.ghost_name ≡ l.fn.self.yard.ghost_name;
  clock : l.self.clock.now ≡ l.fn.self.clock.now;
}
