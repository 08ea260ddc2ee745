use Rattle.std.specs.Prelude.{codes}
use Rattle.std.proofs.lemmas.Result.{on_err_weaker, on_ok_weaker}
use Rattle.cnf_form.specs.Dimacs.{clause_text}
use Rattle.cdcl_run.specs.Output.{OutputOf}
use Rattle.cdcl_run.proofs.Putting.{breaks_more, on_err, puts_both, puts_breaks}
use Rattle.cdcl_run.proofs.proof.put_deletion.Goals as goal

pub returns-in_err-put-clause-failed : goal.returns-in_err-put-clause-failed
returns-in_err-put-clause-failed g c =
    let first : OutputOf = record { taken = g.S.Sink.taken c.args.sink.now; faults = g.S.Sink.faults c.args.sink.now; gathered = c.args.piece.now } in
    let last : OutputOf = record { taken = g.S.Sink.taken c.put.new.sink; faults = g.S.Sink.faults c.put.new.sink; gathered = c.put.new.piece } in
    on_err c.from_residual.result (breaks_more first last (codes "d ") (clause_text c.args.clause.now) c.in_err-put.ensures.failed)

pub returns-clause-ok : goal.returns-clause-ok
returns-clause-ok g c =
    let first : OutputOf = record { taken = g.S.Sink.taken c.args.sink.now; faults = g.S.Sink.faults c.args.sink.now; gathered = c.args.piece.now } in
    let here : OutputOf = record { taken = g.S.Sink.taken c.put.new.sink; faults = g.S.Sink.faults c.put.new.sink; gathered = c.put.new.piece } in
    let last : OutputOf = record { taken = g.S.Sink.taken c.put_clause.new.sink; faults = g.S.Sink.faults c.put_clause.new.sink; gathered = c.put_clause.new.piece } in
    let d = codes "d " in
    let text = clause_text c.args.clause.now in
    on_ok_weaker c.put_clause.result (puts_both first here last d text c.in_ok-put.ensures.ok) c.put_clause.ensures.ok

pub returns-clause-failed : goal.returns-clause-failed
returns-clause-failed g c =
    let first : OutputOf = record { taken = g.S.Sink.taken c.args.sink.now; faults = g.S.Sink.faults c.args.sink.now; gathered = c.args.piece.now } in
    let here : OutputOf = record { taken = g.S.Sink.taken c.put.new.sink; faults = g.S.Sink.faults c.put.new.sink; gathered = c.put.new.piece } in
    let last : OutputOf = record { taken = g.S.Sink.taken c.put_clause.new.sink; faults = g.S.Sink.faults c.put_clause.new.sink; gathered = c.put_clause.new.piece } in
    let d = codes "d " in
    let text = clause_text c.args.clause.now in
    on_err_weaker c.put_clause.result (puts_breaks first here last d text c.in_ok-put.ensures.ok) c.put_clause.ensures.failed
