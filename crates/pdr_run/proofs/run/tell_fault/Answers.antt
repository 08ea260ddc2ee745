use Rattle.std.proofs.Common.{ap, inr, subst, sym, ◌∙◌}
use Rattle.cdcl_run.specs.Run.{World, Writes}
use Rattle.pdr_run.specs.Text.{pair_fault_line}
use Rattle.pdr_run.proofs.run.tell_fault.Goals as goal

pub returns-in-Ok : goal.returns-in-Ok
returns-in-Ok g c = λ told faults.
    let before : World = record { told = told; file_faults = faults; taken = g.S.Sink.taken c.args.sink.now; sink_faults = g.S.Sink.faults c.args.sink.now } in
    let after : World = record { told = told; file_faults = faults; taken = g.S.Sink.taken c.refuse.new.sink; sink_faults = g.S.Sink.faults c.refuse.new.sink } in
    inr (c.refuse.ensures.exit, subst (Writes before after) (c.as_bytes.ensures.value ∙ c.in-Ok.ensures ∙ ap pair_fault_line (sym c.in-Dimacs.is)) (c.refuse.ensures.line told faults))

pub returns-in-Lines : goal.returns-in-Lines
returns-in-Lines g c = λ told faults.
    let before : World = record { told = told; file_faults = faults; taken = g.S.Sink.taken c.args.sink.now; sink_faults = g.S.Sink.faults c.args.sink.now } in
    let after : World = record { told = told; file_faults = faults; taken = g.S.Sink.taken c.refuse-in-Lines.new.sink; sink_faults = g.S.Sink.faults c.refuse-in-Lines.new.sink } in
    inr (c.refuse-in-Lines.ensures.exit, subst (Writes before after) (ap pair_fault_line (sym c.in-Lines.is)) (c.refuse-in-Lines.ensures.line told faults))
