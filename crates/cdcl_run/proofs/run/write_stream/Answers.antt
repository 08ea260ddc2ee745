use Rattle.std.proofs.Common.{subst, inl, inr}
use Rattle.cnf_form.specs.Dimacs.{IsDimacs}
use Rattle.cnf_form.specs.Reading.{IsFault}
use Rattle.cdcl_run.proofs.Answering.{stream_answered, stream_told}
use Rattle.cdcl_run.proofs.run.write_stream.Goals as goal

pub returns-in-Ok-Ok-clause-served : goal.returns-in-Ok-Ok-clause-served
returns-in-Ok-Ok-clause-served g c = λ told faults.
    let d = subst (λ z. IsDimacs z c.in-Ok-Ok.formula) c.deref.ensures.value (rw c.in-Ok-Ok.field-0-is at c.in-Ok-Ok.ensures.formula) in
    inr (inr (inr (c.requires, (c.in-Ok-Ok.formula, d, c.answer.ensures.answers told faults c.args.bytes.items d))))

pub returns-in-Ok-Ok-clause-whole : goal.returns-in-Ok-Ok-clause-whole
returns-in-Ok-Ok-clause-whole g c =
    let d = subst (λ z. IsDimacs z c.in-Ok-Ok.formula) c.deref.ensures.value (rw c.in-Ok-Ok.field-0-is at c.in-Ok-Ok.ensures.formula) in
    stream_answered c.args.hinted c.args.bytes.items c.in-Ok-Ok.formula c.args.budget c.answer.result (g.S.Sink.taken c.args.sink.now) (g.S.Sink.taken c.answer.new.sink) d c.answer.ensures.whole

pub returns-in-Ok-Err-clause-served : goal.returns-in-Ok-Err-clause-served
returns-in-Ok-Err-clause-served g c = λ told faults.
    let d = subst (λ z. IsFault z c.in-Ok-Err.fault.kind c.in-Ok-Err.fault.byte) c.deref.ensures.value (rw c.in-Ok-Err.field-0-is at c.in-Ok-Err.ensures.fault) in
    elim (c.tell_fault.ensures.tells told faults) [ inl e ↦ inl e | inr w ↦ inr (inr (inl (c.requires, (c.in-Ok-Err.fault.kind, c.in-Ok-Err.fault.byte, d, w.0, w.1)))) ]

pub returns-in-Ok-Err-clause-whole : goal.returns-in-Ok-Err-clause-whole
returns-in-Ok-Err-clause-whole g c =
    let d = subst (λ z. IsFault z c.in-Ok-Err.fault.kind c.in-Ok-Err.fault.byte) c.deref.ensures.value (rw c.in-Ok-Err.field-0-is at c.in-Ok-Err.ensures.fault) in
    stream_told c.args.hinted c.args.bytes.items c.args.budget c.in-Ok-Err.fault.kind c.in-Ok-Err.fault.byte c.tell_fault.result (g.S.Sink.taken c.args.sink.now) (g.S.Sink.taken c.tell_fault.new.sink) d c.tell_fault.ensures.whole
