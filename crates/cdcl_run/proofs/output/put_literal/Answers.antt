use Rattle.std.proofs.Common.{◌≡◌, ◌++◌, ap, subst, ◌∙◌}
use Rattle.std.specs.Prelude.{decimal}
use Rattle.std.proofs.lemmas.Result.{on_err_weaker, on_ok_weaker}
use Rattle.cnf_form.specs.Dimacs.{literal_text}
use Rattle.cdcl_run.specs.Output.{Breaks, OutputOf, Puts}
use Rattle.cdcl_run.specs.Text.{sign_text}
use Rattle.cdcl_run.proofs.Clauses.{sign_number}
use Rattle.cdcl_run.proofs.Putting.{breaks_more, on_err, puts_both, puts_breaks}
use Rattle.cdcl_run.proofs.output.put_literal.Goals as goal

pub returns-clause-ok : goal.returns-clause-ok
returns-clause-ok g c =
    let first : OutputOf = record { taken = g.S.Sink.taken c.args.sink.now; faults = g.S.Sink.faults c.args.sink.now; gathered = c.args.piece.now } in
    let here : OutputOf = record { taken = g.S.Sink.taken c.put_sign.new.sink; faults = g.S.Sink.faults c.put_sign.new.sink; gathered = c.put_sign.new.piece } in
    let last : OutputOf = record { taken = g.S.Sink.taken c.put.new.sink; faults = g.S.Sink.faults c.put.new.sink; gathered = c.put.new.piece } in
    let l = c.args.l in
    let number = c.as_bytes.result.now in
    let is : number ≡ decimal l.var = c.as_bytes.ensures.value ∙ c.format-number.ensures.text ∙ ap decimal c.var.ensures in
    let e : sign_text l ++ number ≡ literal_text l = ap (λ z. sign_text l ++ z) is ∙ sign_number l.negated (decimal l.var) in
    on_ok_weaker c.put.result (λ p. subst (Puts first last) e (puts_both first here last (sign_text l) number c.in_ok-put_sign.ensures.ok p)) c.put.ensures.ok

pub returns-clause-failed : goal.returns-clause-failed
returns-clause-failed g c =
    let first : OutputOf = record { taken = g.S.Sink.taken c.args.sink.now; faults = g.S.Sink.faults c.args.sink.now; gathered = c.args.piece.now } in
    let here : OutputOf = record { taken = g.S.Sink.taken c.put_sign.new.sink; faults = g.S.Sink.faults c.put_sign.new.sink; gathered = c.put_sign.new.piece } in
    let last : OutputOf = record { taken = g.S.Sink.taken c.put.new.sink; faults = g.S.Sink.faults c.put.new.sink; gathered = c.put.new.piece } in
    let l = c.args.l in
    let number = c.as_bytes.result.now in
    let is : number ≡ decimal l.var = c.as_bytes.ensures.value ∙ c.format-number.ensures.text ∙ ap decimal c.var.ensures in
    let e : sign_text l ++ number ≡ literal_text l = ap (λ z. sign_text l ++ z) is ∙ sign_number l.negated (decimal l.var) in
    on_err_weaker c.put.result (λ p. subst (Breaks first last) e (puts_breaks first here last (sign_text l) number c.in_ok-put_sign.ensures.ok p)) c.put.ensures.failed

pub returns-in_err-put_sign-clause-failed : goal.returns-in_err-put_sign-clause-failed
returns-in_err-put_sign-clause-failed g c =
    let first : OutputOf = record { taken = g.S.Sink.taken c.args.sink.now; faults = g.S.Sink.faults c.args.sink.now; gathered = c.args.piece.now } in
    let last : OutputOf = record { taken = g.S.Sink.taken c.put_sign.new.sink; faults = g.S.Sink.faults c.put_sign.new.sink; gathered = c.put_sign.new.piece } in
    let l = c.args.l in
    on_err c.from_residual.result (subst (Breaks first last) (sign_number l.negated (decimal l.var)) (breaks_more first last (sign_text l) (decimal l.var) c.in_err-put_sign.ensures.failed))
