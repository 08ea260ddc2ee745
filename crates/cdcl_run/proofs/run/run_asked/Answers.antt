use Rattle.std.proofs.Common.{◌^◌, ◌∙◌, Err, ap, refl, sym, subst, inl, inr}
use Rattle.cdcl_run.specs.Answer.{budget_of}
use Rattle.cdcl_run.specs.Run.{World, IsServed}
use Rattle.cdcl_run.specs.Stream.{exit_of}
use Rattle.cdcl_run.proofs.Contents.{AreAll, IsLong, content_all, content_long}
use Rattle.cdcl_run.proofs.run.run_asked.Goals as goal

pub returns-in-Ok-All-clause-done : goal.returns-in-Ok-All-clause-done
returns-in-Ok-All-clause-done g c =
    let e = c.in-Ok-All.ensures in
    let bytes = c.in-Ok-All.bytes.items in
    let told = g.F.Files.told c.args.files.now in
    let before : World = record { told = told; file_faults = g.F.Files.faults c.args.files.now; taken = g.S.Sink.taken c.args.sink.now; sink_faults = g.S.Sink.faults c.args.sink.now } in
    let after : World = record { told = g.F.Files.told c.get.new.self; file_faults = g.F.Files.faults c.get.new.self; taken = g.S.Sink.taken c.write_stream-stream.new.sink; sink_faults = g.S.Sink.faults c.write_stream-stream.new.sink } in
    let a : AreAll c.in-Ok-All.field-0 bytes = subst (λ z. AreAll z bytes) (sym c.in-Ok-All.field-0-is) refl in
    elim (c.write_stream-stream.ensures.served told (g.F.Files.faults c.args.files.now)) [
      | inl n ↦ inl (record { exit_is = c.exit_of.ensures ∙ n.exit_is; taken = n.taken; sink_faults = n.sink_faults; file_faults = e.cause.ok refl })
      | inr s ↦ inr (inr (
        bytes,
        content_all told c.args.file.now (2 ^ 32) c.in-Ok-All.field-0 bytes a e.content,
        e.cause.ok refl,
        subst (IsServed c.args.hinted before after bytes (budget_of c.args.conflicts)) (sym c.exit_of.ensures) (subst (λ z. IsServed c.args.hinted before after bytes z (exit_of c.write_stream-stream.result)) c.budget_of.ensures s),
      ))
    ]

pub returns-in-Ok-Long-clause-done : goal.returns-in-Ok-Long-clause-done
returns-in-Ok-Long-clause-done g c =
    let e = c.in-Ok-Long.ensures in
    let told = g.F.Files.told c.args.files.now in
    let a : IsLong c.in-Ok-Long.field-0 = subst (λ z. IsLong z) (sym c.in-Ok-Long.field-0-is) tt in
    let w = content_long told c.args.file.now (2 ^ 32) c.in-Ok-Long.field-0 a e.fits e.content in
    inr (inr (w.0, w.1, e.cause.ok refl, inl (w.2, c.refuse.ensures.exit, c.refuse.ensures.line told (g.F.Files.faults c.args.files.now))))

pub returns-in-Err-Failed-clause-done : goal.returns-in-Err-Failed-clause-done
returns-in-Err-Failed-clause-done g c =
    let e = c.in-Err-Failed.ensures in
    inr (inl (record {
      exit_is = c.refuse-in-Err-Failed.ensures.exit;
      line = c.refuse-in-Err-Failed.ensures.line (g.F.Files.told c.args.files.now) (g.F.Files.faults c.args.files.now);
      file_faults = e.cause.failed (ap (λ z. Err z) c.in-Err-Failed.field-0-is);
    }))
