use Rattle.std.proofs.Common.{ap, subst, ◌∙◌, ◌⊎◌}
use Rattle.cdcl_run.specs.Run.{IsOutOfMemory, World}
use Rattle.pdr_core.specs.Work.{WorkOf}
use Rattle.pdr_run.specs.Run.{Answers}
use Rattle.pdr_run.proofs.run.answer.Goals as goal

pub returns-in-Ok : goal.returns-in-Ok
returns-in-Ok g c = λ told faults.
    let before : World = record { told = told; file_faults = faults; taken = g.S.Sink.taken c.args.sink.now; sink_faults = g.S.Sink.faults c.args.sink.now } in
    let after : World = record { told = told; file_faults = faults; taken = g.S.Sink.taken c.tell_outcome.new.sink; sink_faults = g.S.Sink.faults c.tell_outcome.new.sink } in
    let exit = c.tell_outcome.result in
    let p = c.args.pair.now in
    let same = c.in-Ok.ensures.goes_on.budget ∙ ap (λ (w : WorkOf). w.budget) c.new-work.ensures in
    subst (λ budget. IsOutOfMemory before after exit ⊎ Answers before after p budget exit) same (c.tell_outcome.ensures told faults p c.in-Ok.ensures.outcome)
