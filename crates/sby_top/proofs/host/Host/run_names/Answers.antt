use Rattle.std.proofs.Common.{inl, inr, refl, subst}
use Rattle.sby_file.specs.Sby.{SbyText}
use Rattle.sby_lines.specs.declared.early.Early.TheVariants.{Memory, Sby}
use Rattle.sby_top.proofs.ServeLemmas.{same_files}
use Rattle.sby_top.proofs.TopLemmas.{alone_since, names_fault, names_told, text_failed}
use Rattle.sby_top.proofs.host.Host.run_names.Goals as goal

pub returns-in-Err-clause-told : goal.returns-in-Err-clause-told
returns-in-Err-clause-told g c = names_fault (g.C.Clock.may_read c.args.self.now.clock.now) _ _ _ c.args.file.now c.stem_of-stem.result.now c.in-Err.early c.run_fault.result refl (inl (text_failed _ _ c.args.file.now c.in-Err.early c.in-Err.ensures.failed)) c.stem_of-stem.ensures c.run_fault.ensures.ran

pub returns-in-Ok-Ok-clause-told : goal.returns-in-Ok-Ok-clause-told
returns-in-Ok-Ok-clause-told g c =
    let h = c.in-Ok.ensures in
    names_told (g.C.Clock.may_read c.args.self.now.clock.now) _ _ c.args.file.now c.in-Ok.text.items c.in-Ok-Ok.config c.tell_names.result h.got (subst (λ t. SbyText t c.in-Ok-Ok.config) c.deref.ensures.value (rw c.in-Ok-Ok.field-0-is at c.in-Ok-Ok.ensures.text))
    (alone_since _ _ _ _ _ _ _ _ _ _ _ _ _ _ c.tell_names.result h.told h.still h.blamed (c.tell_names.ensures _ _ _ _))

pub returns-in-Ok-Err-clause-told : goal.returns-in-Ok-Err-clause-told
returns-in-Ok-Err-clause-told g c =
    let h = c.in-Ok.ensures in
    let same = same_files _ _ _ _ _ _ h.told h.still h.blamed in
    names_fault (g.C.Clock.may_read c.args.self.now.clock.now) _ _ _ c.args.file.now c.stem_of-stem.result.now (Sby c.in-Ok-Err.fault) c.run_fault-in-Ok-Err.result refl
    (inr (inl (c.in-Ok.text.items, c.in-Ok-Err.fault, (h.got, same), (rw (← c.deref.ensures.value) (rw c.in-Ok-Err.field-0-is at c.in-Ok-Err.ensures.fault)), refl))) c.stem_of-stem.ensures c.run_fault-in-Ok-Err.ensures.ran

pub returns-clause-told : goal.returns-clause-told
returns-clause-told g c =
    let h = c.in-Ok.ensures in
    let same = same_files _ _ _ _ _ _ h.told h.still h.blamed in
    names_fault (g.C.Clock.may_read c.args.self.now.clock.now) _ _ _ c.args.file.now c.stem_of-stem.result.now Memory c.run_fault-in-Err-read.result refl (inr (inr (same, refl))) c.stem_of-stem.ensures c.run_fault-in-Err-read.ensures.ran
