use Rattle.std.proofs.lemmas.Result.{on_err_weaker, on_ok_weaker}
use Rattle.cdcl_run.specs.Output.{Breaks, OutputOf, Puts}
use Rattle.cdcl_run.proofs.Clauses.{same_literal}
use Rattle.cdcl_run.proofs.Putting.{breaks_more, on_err, puts_both, puts_breaks}
use Rattle.cnf_form.specs.Cnf.{LitOf}
use Rattle.cnf_form.specs.Dimacs.{literal_text}
use Rattle.std.proofs.Common.{◌≡◌, ◌∷◌, not, subst}
use Rattle.cdcl_run.specs.Text.{break_text}
use Rattle.cdcl_run.proofs.values.put_next.Goals as goal

pub returns-clause-ok : goal.returns-clause-ok
returns-clause-ok g c =
    let first : OutputOf = record { taken = g.S.Sink.taken c.args.sink.now; faults = g.S.Sink.faults c.args.sink.now; gathered = c.args.piece.now } in
    let here : OutputOf = record { taken = g.S.Sink.taken c.put_break.new.sink; faults = g.S.Sink.faults c.put_break.new.sink; gathered = c.put_break.new.piece } in
    let last : OutputOf = record { taken = g.S.Sink.taken c.put_value.new.sink; faults = g.S.Sink.faults c.put_value.new.sink; gathered = c.put_value.new.piece } in
    let l : LitOf = record { var = c.args.var; negated = not c.args.value } in
    let is : c.new.result ≡ l = same_literal c.new.result c.args.var (not c.args.value) c.new.ensures.var c.new.ensures.negated in
    on_ok_weaker c.put_value.result (λ p. puts_both first here last (break_text c.args.var) (32 ∷ literal_text l) c.in_ok-put_break.ensures.ok (subst (λ z. Puts here last (32 ∷ literal_text z)) is p)) c.put_value.ensures.ok

pub returns-clause-failed : goal.returns-clause-failed
returns-clause-failed g c =
    let first : OutputOf = record { taken = g.S.Sink.taken c.args.sink.now; faults = g.S.Sink.faults c.args.sink.now; gathered = c.args.piece.now } in
    let here : OutputOf = record { taken = g.S.Sink.taken c.put_break.new.sink; faults = g.S.Sink.faults c.put_break.new.sink; gathered = c.put_break.new.piece } in
    let last : OutputOf = record { taken = g.S.Sink.taken c.put_value.new.sink; faults = g.S.Sink.faults c.put_value.new.sink; gathered = c.put_value.new.piece } in
    let l : LitOf = record { var = c.args.var; negated = not c.args.value } in
    let is : c.new.result ≡ l = same_literal c.new.result c.args.var (not c.args.value) c.new.ensures.var c.new.ensures.negated in
    on_err_weaker c.put_value.result (λ p. puts_breaks first here last (break_text c.args.var) (32 ∷ literal_text l) c.in_ok-put_break.ensures.ok (subst (λ z. Breaks here last (32 ∷ literal_text z)) is p)) c.put_value.ensures.failed

pub returns-in_err-put_break-clause-failed : goal.returns-in_err-put_break-clause-failed
returns-in_err-put_break-clause-failed g c =
    let first : OutputOf = record { taken = g.S.Sink.taken c.args.sink.now; faults = g.S.Sink.faults c.args.sink.now; gathered = c.args.piece.now } in
    let last : OutputOf = record { taken = g.S.Sink.taken c.put_break.new.sink; faults = g.S.Sink.faults c.put_break.new.sink; gathered = c.put_break.new.piece } in
    on_err c.from_residual.result (breaks_more first last (break_text c.args.var) (32 ∷ literal_text (record { var = c.args.var; negated = not c.args.value })) c.in_err-put_break.ensures.failed)
