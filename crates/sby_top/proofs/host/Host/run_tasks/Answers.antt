use Rattle.std.proofs.Common.{map, refl}
use Rattle.std.specs.Prelude.{option_map, string_bytes}
use Rattle.sby_top.specs.World.{world_at}
use Rattle.task_race.specs.Bays.{counts_at, yard_at}
use Rattle.sby_top.proofs.ServeLemmas.{same_files}
use Rattle.sby_top.proofs.TopLemmas.{tasks_done, tasks_fault}
use Rattle.sby_top.proofs.host.Host.run_tasks.Goals as goal

pub returns-in-Ok-clause-done : goal.returns-in-Ok-clause-done
returns-in-Ok-clause-done g c = let h = c.in-Ok.ensures in
    tasks_done (g.C.Clock.may_read c.args.self.now.clock.now) _ _ _ c.run_text.result c.args.words.now (string_bytes c.words.inside.file) (string_bytes c.words.inside.file) c.stem_of-stem.result.now c.in-Ok.text.items (option_map string_bytes c.words.inside.directory) c.words.inside.jobs
    (map string_bytes c.words.inside.names.items) c.words.view_is refl refl (rw (← c.as_str-2.ensures.value) h.got) (same_files _ _ _ _ _ _ h.told h.still h.blamed) (rw (← c.as_str.ensures.value) c.stem_of-stem.ensures)
    (rw (← c.text_in-directory.ensures, ← c.deref.ensures.value, ← c.deref-in-Ok.ensures.value) c.run_text.ensures.ran)

pub returns-in-Err-clause-done : goal.returns-in-Err-clause-done
returns-in-Err-clause-done g c = let h = c.in-Err.ensures in
    tasks_fault (g.C.Clock.may_read c.args.self.now.clock.now)
    (world_at (g.F.Files.told c.args.self.now.files.now) (g.F.Files.faults c.args.self.now.files.now) (g.F.Files.blamed c.args.self.now.files.now) (g.S.Sink.taken c.args.self.now.out.now) (g.S.Sink.faults c.args.self.now.out.now) (g.S.Sink.ended c.args.self.now.out.now) (yard_at (g.Y.Yard.told c.args.self.now.yard.now) (g.Y.Yard.started c.args.self.now.yard.now) (counts_at (g.Y.Yard.start_faults c.args.self.now.yard.now) (g.Y.Yard.read_faults c.args.self.now.yard.now) (g.Y.Yard.hold_faults c.args.self.now.yard.now))))
    (world_at (g.F.Files.told c.get.new.files) (g.F.Files.faults c.get.new.files) (g.F.Files.blamed c.get.new.files) (g.S.Sink.taken c.args.self.now.out.now) (g.S.Sink.faults c.args.self.now.out.now) (g.S.Sink.ended c.args.self.now.out.now) (yard_at (g.Y.Yard.told c.args.self.now.yard.now) (g.Y.Yard.started c.args.self.now.yard.now) (counts_at (g.Y.Yard.start_faults c.args.self.now.yard.now) (g.Y.Yard.read_faults c.args.self.now.yard.now) (g.Y.Yard.hold_faults c.args.self.now.yard.now))))
    _ c.run_fault.result c.args.words.now (string_bytes c.words.inside.file) (string_bytes c.words.inside.file) c.stem_of-stem.result.now (option_map string_bytes c.words.inside.directory) c.words.inside.jobs
    (map string_bytes c.words.inside.names.items) c.in-Err.early c.words.view_is refl refl (rw (← c.as_str-2.ensures.value) h.failed) (rw (← c.as_str.ensures.value) c.stem_of-stem.ensures)
    (rw (← c.text_in-directory.ensures) c.run_fault.ensures.ran)
