use Rattle.std.proofs.Common.{[], append-nil, inr, subst}
use Rattle.cdcl_run.specs.Output.{Breaks, OutputOf}
use Rattle.cdcl_run.proofs.Putting.{on_err, puts_breaks}
use Rattle.cdcl_run.proofs.run.finish.Goals as goal

pub returns-in_err-flush-clause-failed : goal.returns-in_err-flush-clause-failed
returns-in_err-flush-clause-failed g c =
    let first : OutputOf = record { taken = g.S.Sink.taken c.args.sink.now; faults = g.S.Sink.faults c.args.sink.now; gathered = c.args.piece.now } in
    let here : OutputOf = record { taken = g.S.Sink.taken c.put_end.new.sink; faults = g.S.Sink.faults c.put_end.new.sink; gathered = c.put_end.new.piece } in
    let last : OutputOf = record { taken = g.S.Sink.taken c.flush.new.sink; faults = g.S.Sink.faults c.flush.new.sink; gathered = c.flush.new.piece } in
    let e = c.in_ok-exit.ensures.end in
    on_err c.from_residual-in_err-flush.result (inr (e.0, c.in_ok-exit.exit, e.1, subst (Breaks first last) (append-nil e.0) (puts_breaks first here last e.0 [] e.2 c.in_err-flush.ensures.failed)))
