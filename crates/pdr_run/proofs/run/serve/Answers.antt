use Rattle.std.proofs.Common.{inl, inr, subst, ◌∙◌}
use Rattle.cdcl_run.specs.Run.{World}
use Rattle.pair_form.specs.Pair.{IsPair}
use Rattle.pair_reader.specs.Reading.{IsPairFault}
use Rattle.pdr_run.proofs.Answering.{fault_served}
use Rattle.pdr_run.proofs.run.serve.Goals as goal

pub returns-in-Ok-Ok : goal.returns-in-Ok-Ok
returns-in-Ok-Ok g c = λ told faults.
    let p = c.in-Ok-Ok.pair in
    let is = subst IsPair c.pair.view_is c.pair.invariant in
    let text = rw c.in-Ok-Ok.field-0-is at c.in-Ok-Ok.ensures.pair in
    elim (c.answer.ensures told faults) [ inl e ↦ inl e | inr w ↦ inr (inr (inr (c.requires, (p, is, text ∙ c.deref.ensures.value, w)))) ]

pub returns-in-Ok-Err : goal.returns-in-Ok-Err
returns-in-Ok-Err g c = λ told faults.
    let before : World = record { told = told; file_faults = faults; taken = g.S.Sink.taken c.args.sink.now; sink_faults = g.S.Sink.faults c.args.sink.now } in
    let after : World = record { told = told; file_faults = faults; taken = g.S.Sink.taken c.tell_fault.new.sink; sink_faults = g.S.Sink.faults c.tell_fault.new.sink } in
    let fault = c.in-Ok-Err.fault in
    let f = subst (λ z. IsPairFault z fault) c.deref.ensures.value (rw c.in-Ok-Err.field-0-is at c.in-Ok-Err.ensures.fault) in
    elim (c.tell_fault.ensures told faults) [ inl e ↦ inl e | inr w ↦ inr (fault_served before after c.args.bytes.items c.args.budget c.tell_fault.result fault c.requires f w.0 w.1) ]
