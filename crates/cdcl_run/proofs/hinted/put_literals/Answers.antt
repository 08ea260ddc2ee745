use Rattle.std.proofs.Common.{subst}
use Rattle.std.proofs.lemmas.Result.{on_err_weaker, on_ok_weaker}
use Rattle.cdcl_run.specs.Output.{Breaks, OutputOf, Puts}
use Rattle.cdcl_run.proofs.HintedClauses.{literals_end}
use Rattle.cdcl_run.proofs.hinted.put_literals.Goals as goal

pub returns-clause-ok : goal.returns-clause-ok
returns-clause-ok g c =
    let first : OutputOf = record { taken = g.S.Sink.taken c.args.sink.now; faults = g.S.Sink.faults c.args.sink.now; gathered = c.args.piece.now } in
    let last : OutputOf = record { taken = g.S.Sink.taken c.put_words.new.sink; faults = g.S.Sink.faults c.put_words.new.sink; gathered = c.put_words.new.piece } in
    on_ok_weaker c.put_words.result (subst (Puts first last) (literals_end c.args.clause.now)) c.put_words.ensures.ok

pub returns-clause-failed : goal.returns-clause-failed
returns-clause-failed g c =
    let first : OutputOf = record { taken = g.S.Sink.taken c.args.sink.now; faults = g.S.Sink.faults c.args.sink.now; gathered = c.args.piece.now } in
    let last : OutputOf = record { taken = g.S.Sink.taken c.put_words.new.sink; faults = g.S.Sink.faults c.put_words.new.sink; gathered = c.put_words.new.piece } in
    on_err_weaker c.put_words.result (subst (Breaks first last) (literals_end c.args.clause.now)) c.put_words.ensures.failed
