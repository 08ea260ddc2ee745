use Rattle.std.proofs.Common.{◌≡◌, ◌≤◌, ◌+◌, All, List, drop, length}
use Rattle.std.specs.Prelude.{vec_capacity}
use Rattle.std.specs.Vec.Iter.{into_iter_items, into_iter_len}
use Rattle.jobs_pool.specs.Places.{PoolOf}
use Rattle.task_race.specs.Bays.{counts_at, yard_at}
use Rattle.sby_top.specs.Ready.{back_by}
use Rattle.sby_top.specs.Turns.{Turn}
use Rattle.sby_top.specs.Waiting.{AreSlotted, Holds, IsOver}
use Rattle.sby_top.specs.World.{World, files_of, world_at}
use Rattle.sby_top.proofs.TogetherLemmas.{AreShowing}
use Rattle.sby_top.proofs.host.Host.show_slots.Given as goal

abbrev pub invariant-loop-slot : goal.invariant-loop-slot
invariant-loop-slot g l = record {
  len : into_iter_len l.left ≡ length (into_iter_items l.left);
  over : All (λ slot. Holds slot IsOver) (into_iter_items l.left);
  room : length l.done.ends.items + length (into_iter_items l.left) ≤ vec_capacity l.done.ends;
  showing : (pool : PoolOf) (start : World) (turns : List Turn)
      → AreSlotted (back_by g.Y.Bay.Launch.told g.Y.Bay.Launch.start_faults g.Y.Bay.Launch.read_faults g.Y.Bay.Launch.hold_faults) (g.C.Clock.may_read l.fn.self.clock.now) pool start
      (world_at (g.F.Files.told l.fn.self.files.now) (g.F.Files.faults l.fn.self.files.now) (g.F.Files.blamed l.fn.self.files.now) (g.S.Sink.taken l.fn.self.out.now) (g.S.Sink.faults l.fn.self.out.now) (g.S.Sink.ended l.fn.self.out.now) (yard_at (g.Y.Yard.told l.fn.self.yard.now) (g.Y.Yard.started l.fn.self.yard.now) (counts_at (g.Y.Yard.start_faults l.fn.self.yard.now) (g.Y.Yard.read_faults l.fn.self.yard.now) (g.Y.Yard.hold_faults l.fn.self.yard.now))))
      turns l.fn.is_all l.fn.slots.items
      → AreShowing (back_by g.Y.Bay.Launch.told g.Y.Bay.Launch.start_faults g.Y.Bay.Launch.read_faults g.Y.Bay.Launch.hold_faults) (g.C.Clock.may_read l.fn.self.clock.now) pool (files_of start)
      (files_of (world_at (g.F.Files.told l.fn.self.files.now) (g.F.Files.faults l.fn.self.files.now) (g.F.Files.blamed l.fn.self.files.now) (g.S.Sink.taken l.fn.self.out.now) (g.S.Sink.faults l.fn.self.out.now) (g.S.Sink.ended l.fn.self.out.now) (yard_at (g.Y.Yard.told l.fn.self.yard.now) (g.Y.Yard.started l.fn.self.yard.now) (counts_at (g.Y.Yard.start_faults l.fn.self.yard.now) (g.Y.Yard.read_faults l.fn.self.yard.now) (g.Y.Yard.hold_faults l.fn.self.yard.now)))))
      turns (drop (length l.fn.slots.items) turns)
      (world_at (g.F.Files.told l.fn.self.files.now) (g.F.Files.faults l.fn.self.files.now) (g.F.Files.blamed l.fn.self.files.now) (g.S.Sink.taken l.fn.self.out.now) (g.S.Sink.faults l.fn.self.out.now) (g.S.Sink.ended l.fn.self.out.now) (yard_at (g.Y.Yard.told l.fn.self.yard.now) (g.Y.Yard.started l.fn.self.yard.now) (counts_at (g.Y.Yard.start_faults l.fn.self.yard.now) (g.Y.Yard.read_faults l.fn.self.yard.now) (g.Y.Yard.hold_faults l.fn.self.yard.now))))
      (world_at (g.F.Files.told l.self.files.now) (g.F.Files.faults l.self.files.now) (g.F.Files.blamed l.self.files.now) (g.S.Sink.taken l.self.out.now) (g.S.Sink.faults l.self.out.now) (g.S.Sink.ended l.self.out.now) (yard_at (g.Y.Yard.told l.self.yard.now) (g.Y.Yard.started l.self.yard.now) (counts_at (g.Y.Yard.start_faults l.self.yard.now) (g.Y.Yard.read_faults l.self.yard.now) (g.Y.Yard.hold_faults l.self.yard.now))))
      (into_iter_items l.left) l.done;
  files : l.self.files.ghost_name ≡ l.fn.self.files.ghost_name;
  out : l.self.out.ghost_name ≡ l.fn.self.out.ghost_name;
  yard : l.self.yard.ghost_name ≡ l.fn.self.yard.ghost_name;
  clock : l.self.clock.now ≡ l.fn.self.clock.now;
}

abbrev pub decreases-loop-slot : goal.decreases-loop-slot
decreases-loop-slot g l = into_iter_len l.left
