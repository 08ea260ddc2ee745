use Rattle.std.proofs.Common.{◌∷◌, [], ap, refl, subst, sym, ◌∙◌}
use Rattle.std.specs.Prelude.{None, Option, string_bytes}
use Rattle.jobs_pool.specs.Places.{PoolOf}
use Rattle.sby_lines.specs.Lines.{design_line}
use Rattle.sby_lines.specs.Telling.{Tells}
use Rattle.sby_top.specs.Ready.{IsReady, WasPrepared, back_by}
use Rattle.sby_top.specs.Task.{task_seen}
use Rattle.sby_top.specs.World.{FilesOf, World, world_at}
use Rattle.sby_top.proofs.RunLemmas.{raced_same, ready_same}
use Rattle.task_race.specs.Bays.{BackOf, YardAt, counts_at, yard_at}
use Rattle.sby_top.proofs.host.Host.run_task.Goals as goal

pub race-raced-requires-clause-ready : goal.race-raced-requires-clause-ready
race-raced-requires-clause-ready g c = λ lifetimes lives.
    let p = c.in-Ok.ensures in
    let h = c.tell_head-head.ensures in
    let view : g.row.Y-Bay.Denot → BackOf = back_by g.Y.Bay.Launch.told g.Y.Bay.Launch.start_faults g.Y.Bay.Launch.read_faults g.Y.Bay.Launch.hold_faults in
    let alone = subst (λ (pool : Option PoolOf). IsReady view (task_seen c.args.task) c.args.number pool (g.F.Files.told c.prepare-prepared.new.self.files.now) (g.Y.Yard.told c.args.self.now.yard.now) c.in-Ok.ready) c.none-alone.ensures p.ready in
    (None, ready_same view _ _ None _ _ _ _ c.in-Ok.ready (ap g.F.Files.told h.files) (ap g.Y.Yard.told h.yard ∙ p.scripts) alone)

pub finish_raced-requires-clause-raced : goal.finish_raced-requires-clause-raced
finish_raced-requires-clause-raced g c = λ lifetimes lives.
    let p = c.in-Ok.ensures in
    let h = c.tell_head-head.ensures in
    let view : g.row.Y-Bay.Denot → BackOf = back_by g.Y.Bay.Launch.told g.Y.Bay.Launch.start_faults g.Y.Bay.Launch.read_faults g.Y.Bay.Launch.hold_faults in
    let alone = subst (λ (pool : Option PoolOf). IsReady view (task_seen c.args.task) c.args.number pool (g.F.Files.told c.prepare-prepared.new.self.files.now) (g.Y.Yard.told c.args.self.now.yard.now) c.in-Ok.ready) c.none-alone.ensures p.ready in
    let ready = ready_same view _ _ None _ _ _ _ c.in-Ok.ready (ap g.F.Files.told h.files) (ap g.Y.Yard.told h.yard ∙ p.scripts) alone in
    (None, _, c.race-raced.ensures.raced None ready)

pub returns-in-Ok-clause-ran : goal.returns-in-Ok-clause-ran
returns-in-Ok-clause-ran g c =
    let p = c.in-Ok.ensures in
    let h = c.tell_head-head.ensures in
    let r = c.race-raced.ensures in
    let old = c.args.self.now in
    let mid = c.prepare-prepared.new.self in
    let new = c.tell_head-head.new.self in
    let task = task_seen c.args.task in
    let view : g.row.Y-Bay.Denot → BackOf = back_by g.Y.Bay.Launch.told g.Y.Bay.Launch.start_faults g.Y.Bay.Launch.read_faults g.Y.Bay.Launch.hold_faults in
    let yard : g.row.Y.Denot → YardAt = λ y. yard_at (g.Y.Yard.told y) (g.Y.Yard.started y) (counts_at (g.Y.Yard.start_faults y) (g.Y.Yard.read_faults y) (g.Y.Yard.hold_faults y)) in
    let files : g.row.F.Denot → FilesOf = λ f. record { told = g.F.Files.told f; faults = g.F.Files.faults f; blamed = g.F.Files.blamed f } in
    let before : World = world_at (g.F.Files.told mid.files.now) (g.F.Files.faults mid.files.now) (g.F.Files.blamed mid.files.now) (g.S.Sink.taken old.out.now) (g.S.Sink.faults old.out.now) (g.S.Sink.ended old.out.now) (yard old.yard.now) in
    let alone = subst (λ (pool : Option PoolOf). IsReady view task c.args.number pool (g.F.Files.told mid.files.now) (g.Y.Yard.told old.yard.now) c.in-Ok.ready) c.none-alone.ensures p.ready in
    let ready = ready_same view _ _ None _ _ _ _ c.in-Ok.ready (ap g.F.Files.told h.files) (ap g.Y.Yard.told h.yard ∙ p.scripts) alone in
    let prepared : WasPrepared task (files old.files.now) (files mid.files.now) c.race-raced.result.problem = rw r.problem (record { served = p.served; put_is = p.put; faults = p.still; blamed = p.blamed }) in
    let raced = raced_same view task _ None _ _ _ _ _ _ c.race-raced.result refl (sym (ap g.F.Files.told h.files)) refl (r.raced None ready) in
    let head = subst (λ (o : g.row.S.Denot). Tells (g.S.Sink.taken o) (g.S.Sink.taken new.out.now) (g.S.Sink.faults o) (g.S.Sink.faults new.out.now) (g.S.Sink.ended new.out.now) (design_line (string_bytes c.args.task.name) c.race-raced.result.problem.design ∷ []) c.tell_head-head.result) p.out (rw r.problem h.told) in (
      files mid.files.now,
      rw (← p.keeps.3, ← h.keeps.3) (c.finish_raced.ensures.ran (files old.files.now) (files mid.files.now) None before prepared raced (sym (ap yard h.yard ∙ p.yard)) (sym (ap files h.files)) head),
    )

pub returns-in-Err-clause-ran : goal.returns-in-Err-clause-ran
returns-in-Err-clause-ran g c =
    let p = c.in-Err.ensures in
    let old = c.args.self.now in
    let mid = c.prepare-prepared.new.self in
    let yard : g.row.Y.Denot → YardAt = λ y. yard_at (g.Y.Yard.told y) (g.Y.Yard.started y) (counts_at (g.Y.Yard.start_faults y) (g.Y.Yard.read_faults y) (g.Y.Yard.hold_faults y)) in
    let files : g.row.F.Denot → FilesOf = λ f. record { told = g.F.Files.told f; faults = g.F.Files.faults f; blamed = g.F.Files.blamed f } in
    let before : g.row.S.Denot → World = λ out. world_at (g.F.Files.told mid.files.now) (g.F.Files.faults mid.files.now) (g.F.Files.blamed mid.files.now) (g.S.Sink.taken out) (g.S.Sink.faults out) (g.S.Sink.ended out) (yard old.yard.now) in (
      files mid.files.now,
      rw (← p.keeps.3) (c.finish_early.ensures.ran (files old.files.now) (files mid.files.now) None (before old.out.now) p.err p.later (ap before (sym p.out)) p.spared p.scripts p.children),
    )
