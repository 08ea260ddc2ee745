use Rattle.std.proofs.Common.{ap, refl, sym}
use Rattle.sby_top.specs.World.{FilesOf, World, world_at}
use Rattle.sby_top.proofs.RunLemmas.{raced_same}
use Rattle.task_race.specs.Bays.{YardAt, counts_at, yard_at}
use Rattle.sby_top.proofs.host.Host.show_task.Goals as goal

pub finish_raced-requires-clause-raced : goal.finish_raced-requires-clause-raced
finish_raced-requires-clause-raced g c = λ lifetimes lives.
    let h = c.tell_head-head.ensures in
    let was = c.requires.raced in
    (was.0, was.1, raced_same _ _ _ _ _ _ _ _ _ _ c.args.raced (ap g.C.Clock.may_read h.keeps.3) refl (ap g.Y.Yard.told h.yard) was.2)

pub returns-clause-ran : goal.returns-clause-ran
returns-clause-ran g c = λ got put pool prepared raced.
    let h = c.tell_head-head.ensures in
    let old = c.args.self.now in
    let yard : g.row.Y.Denot → YardAt = λ y. yard_at (g.Y.Yard.told y) (g.Y.Yard.started y) (counts_at (g.Y.Yard.start_faults y) (g.Y.Yard.read_faults y) (g.Y.Yard.hold_faults y)) in
    let files : g.row.F.Denot → FilesOf = λ f. record { told = g.F.Files.told f; faults = g.F.Files.faults f; blamed = g.F.Files.blamed f } in
    let before : World = world_at (g.F.Files.told old.files.now) (g.F.Files.faults old.files.now) (g.F.Files.blamed old.files.now) (g.S.Sink.taken old.out.now) (g.S.Sink.faults old.out.now) (g.S.Sink.ended old.out.now) (yard old.yard.now) in
    let own = raced_same _ _ _ _ _ _ _ _ _ _ c.args.raced (ap g.C.Clock.may_read h.keeps.3) refl (ap g.Y.Yard.told h.yard) raced in
    rw (← h.keeps.3) (c.finish_raced.ensures.ran got put pool before prepared own (ap yard (sym h.yard)) (ap files (sym h.files)) h.told)
