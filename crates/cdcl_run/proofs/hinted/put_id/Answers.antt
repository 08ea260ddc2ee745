use Rattle.std.proofs.Common.{◌≡◌, ◌∙◌, [], ◌∷◌, subst}
use Rattle.std.specs.Prelude.{decimal}
use Rattle.std.proofs.lemmas.Result.{on_err_weaker, on_ok_weaker}
use Rattle.cdcl_run.specs.Output.{Breaks, OutputOf, Puts}
use Rattle.cdcl_run.proofs.Putting.{breaks_more, on_err, puts_both, puts_breaks}
use Rattle.cdcl_run.proofs.hinted.put_id.Goals as goal

pub returns-clause-ok : goal.returns-clause-ok
returns-clause-ok g c =
    let first : OutputOf = record { taken = g.S.Sink.taken c.args.sink.now; faults = g.S.Sink.faults c.args.sink.now; gathered = c.args.piece.now } in
    let here : OutputOf = record { taken = g.S.Sink.taken c.put.new.sink; faults = g.S.Sink.faults c.put.new.sink; gathered = c.put.new.piece } in
    let last : OutputOf = record { taken = g.S.Sink.taken c.put-2.new.sink; faults = g.S.Sink.faults c.put-2.new.sink; gathered = c.put-2.new.piece } in
    let is : c.as_bytes.result.now ≡ decimal c.args.id = c.as_bytes.ensures.value ∙ c.format-number.ensures.text in
    on_ok_weaker c.put-2.result (puts_both first here last (decimal c.args.id) (32 ∷ []) (subst (Puts first here) is c.in_ok-put.ensures.ok)) c.put-2.ensures.ok

pub returns-clause-failed : goal.returns-clause-failed
returns-clause-failed g c =
    let first : OutputOf = record { taken = g.S.Sink.taken c.args.sink.now; faults = g.S.Sink.faults c.args.sink.now; gathered = c.args.piece.now } in
    let here : OutputOf = record { taken = g.S.Sink.taken c.put.new.sink; faults = g.S.Sink.faults c.put.new.sink; gathered = c.put.new.piece } in
    let last : OutputOf = record { taken = g.S.Sink.taken c.put-2.new.sink; faults = g.S.Sink.faults c.put-2.new.sink; gathered = c.put-2.new.piece } in
    let is : c.as_bytes.result.now ≡ decimal c.args.id = c.as_bytes.ensures.value ∙ c.format-number.ensures.text in
    on_err_weaker c.put-2.result (puts_breaks first here last (decimal c.args.id) (32 ∷ []) (subst (Puts first here) is c.in_ok-put.ensures.ok)) c.put-2.ensures.failed

pub returns-in_err-put-clause-failed : goal.returns-in_err-put-clause-failed
returns-in_err-put-clause-failed g c =
    let first : OutputOf = record { taken = g.S.Sink.taken c.args.sink.now; faults = g.S.Sink.faults c.args.sink.now; gathered = c.args.piece.now } in
    let last : OutputOf = record { taken = g.S.Sink.taken c.put.new.sink; faults = g.S.Sink.faults c.put.new.sink; gathered = c.put.new.piece } in
    let is : c.as_bytes.result.now ≡ decimal c.args.id = c.as_bytes.ensures.value ∙ c.format-number.ensures.text in
    on_err c.from_residual.result (breaks_more first last (decimal c.args.id) (32 ∷ []) (subst (Breaks first last) is c.in_err-put.ensures.failed))
