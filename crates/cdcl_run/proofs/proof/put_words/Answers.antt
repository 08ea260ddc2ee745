use Rattle.std.proofs.Common.{◌+◌, [], ◌∷◌, ◌++◌, get_or, take, drop, subst, ap}
use Rattle.std.proofs.lemmas.List.{take_all}
use Rattle.std.proofs.lemmas.Result.{on_err_weaker, on_ok_weaker}
use Rattle.cnf_form.specs.Dimacs.{literal_text}
use Rattle.cdcl_run.specs.Output.{Breaks, OutputOf, Puts}
use Rattle.cdcl_run.specs.Text.{words_text}
use Rattle.cdcl_run.proofs.Clauses.{words_more, words_rest}
use Rattle.cdcl_run.proofs.Putting.{breaks_more, on_err, puts_both, puts_breaks}
use Rattle.cdcl_run.proofs.proof.put_words.Goals as goal

pub loop-l-preserved : goal.loop-l-preserved
loop-l-preserved g c =
    let first : OutputOf = record { taken = g.S.Sink.taken c.args.sink.now; faults = g.S.Sink.faults c.args.sink.now; gathered = c.args.piece.now } in
    let here : OutputOf = record { taken = g.S.Sink.taken c.loop-l.sink; faults = g.S.Sink.faults c.loop-l.sink; gathered = c.loop-l.piece } in
    let last : OutputOf = record { taken = g.S.Sink.taken c.put_word.new.sink; faults = g.S.Sink.faults c.put_word.new.sink; gathered = c.put_word.new.piece } in
    let clause = c.args.clause.now in
    let i = c.loop-l.l-index in
    let l = c.l-item.result in
    let p = subst (λ z. Puts here last (literal_text z ++ 32 ∷ [])) c.l-item.is c.in_ok-put_word.ensures.ok in
    subst (Puts first last) (words_more clause i l c.loop-l-test.true) (puts_both first here last (words_text (take i clause)) (literal_text (get_or clause i l) ++ 32 ∷ []) c.loop-l.invariant p)

pub returns-in_err-put_word-clause-failed : goal.returns-in_err-put_word-clause-failed
returns-in_err-put_word-clause-failed g c =
    let first : OutputOf = record { taken = g.S.Sink.taken c.args.sink.now; faults = g.S.Sink.faults c.args.sink.now; gathered = c.args.piece.now } in
    let here : OutputOf = record { taken = g.S.Sink.taken c.loop-l.sink; faults = g.S.Sink.faults c.loop-l.sink; gathered = c.loop-l.piece } in
    let last : OutputOf = record { taken = g.S.Sink.taken c.put_word.new.sink; faults = g.S.Sink.faults c.put_word.new.sink; gathered = c.put_word.new.piece } in
    let clause = c.args.clause.now in
    let i = c.loop-l.l-index in
    let l = c.l-item.result in
    let had = words_text (take i clause) in
    let word = literal_text (get_or clause i l) ++ 32 ∷ [] in
    let p = subst (λ z. Breaks here last (literal_text z ++ 32 ∷ [])) c.l-item.is c.in_err-put_word.ensures.failed in
    on_err c.from_residual.result (subst (Breaks first last) (words_rest clause i l c.args.end.now c.loop-l-test.true) (breaks_more first last (had ++ word) (words_text (drop (i + 1) clause) ++ c.args.end.now) (puts_breaks first here last had word c.loop-l.invariant p)))

pub returns-clause-ok : goal.returns-clause-ok
returns-clause-ok g c =
    let first : OutputOf = record { taken = g.S.Sink.taken c.args.sink.now; faults = g.S.Sink.faults c.args.sink.now; gathered = c.args.piece.now } in
    let here : OutputOf = record { taken = g.S.Sink.taken c.loop-l.sink; faults = g.S.Sink.faults c.loop-l.sink; gathered = c.loop-l.piece } in
    let last : OutputOf = record { taken = g.S.Sink.taken c.put.new.sink; faults = g.S.Sink.faults c.put.new.sink; gathered = c.put.new.piece } in
    let clause = c.args.clause.now in
    let i = c.loop-l.l-index in
    on_ok_weaker c.put.result (λ p. subst (Puts first last) (ap (λ z. words_text z ++ c.args.end.now) (take_all i clause c.loop-l-test.false)) (puts_both first here last (words_text (take i clause)) c.args.end.now c.loop-l.invariant p)) c.put.ensures.ok

pub returns-clause-failed : goal.returns-clause-failed
returns-clause-failed g c =
    let first : OutputOf = record { taken = g.S.Sink.taken c.args.sink.now; faults = g.S.Sink.faults c.args.sink.now; gathered = c.args.piece.now } in
    let here : OutputOf = record { taken = g.S.Sink.taken c.loop-l.sink; faults = g.S.Sink.faults c.loop-l.sink; gathered = c.loop-l.piece } in
    let last : OutputOf = record { taken = g.S.Sink.taken c.put.new.sink; faults = g.S.Sink.faults c.put.new.sink; gathered = c.put.new.piece } in
    let clause = c.args.clause.now in
    let i = c.loop-l.l-index in
    on_err_weaker c.put.result (λ p. subst (Breaks first last) (ap (λ z. words_text z ++ c.args.end.now) (take_all i clause c.loop-l-test.false)) (puts_breaks first here last (words_text (take i clause)) c.args.end.now c.loop-l.invariant p)) c.put.ensures.failed
