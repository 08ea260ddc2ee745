use Rattle.std.proofs.Common.{[], ◌∷◌, ◌++◌, subst}
use Rattle.std.specs.Prelude.{decimal}
use Rattle.std.proofs.lemmas.Result.{on_err_weaker, on_ok_weaker}
use Rattle.cdcl_run.specs.HintedText.{ids_text, literals_text}
use Rattle.cdcl_run.specs.Output.{Breaks, OutputOf, Puts}
use Rattle.cdcl_run.proofs.HintedClauses.{addition_parts}
use Rattle.cdcl_run.proofs.Putting.{breaks_more, on_err, puts_both, puts_breaks}
use Rattle.cdcl_run.proofs.hinted.put_hinted.Goals as goal

pub returns-in_err-put_id-clause-failed : goal.returns-in_err-put_id-clause-failed
returns-in_err-put_id-clause-failed g c =
    let first : OutputOf = record { taken = g.S.Sink.taken c.args.sink.now; faults = g.S.Sink.faults c.args.sink.now; gathered = c.args.piece.now } in
    let last : OutputOf = record { taken = g.S.Sink.taken c.put_id.new.sink; faults = g.S.Sink.faults c.put_id.new.sink; gathered = c.put_id.new.piece } in
    let a = decimal c.args.id ++ 32 ∷ [] in
    let b = literals_text c.args.clause.now in
    let d = ids_text c.args.hints.now in
    let e = addition_parts c.args.clause.now c.args.id c.args.hints.now in
    on_err c.from_residual.result (subst (Breaks first last) e (breaks_more first last a (b ++ d) c.in_err-put_id.ensures.failed))

pub returns-in_err-put_literals-clause-failed : goal.returns-in_err-put_literals-clause-failed
returns-in_err-put_literals-clause-failed g c =
    let first : OutputOf = record { taken = g.S.Sink.taken c.args.sink.now; faults = g.S.Sink.faults c.args.sink.now; gathered = c.args.piece.now } in
    let here : OutputOf = record { taken = g.S.Sink.taken c.put_id.new.sink; faults = g.S.Sink.faults c.put_id.new.sink; gathered = c.put_id.new.piece } in
    let last : OutputOf = record { taken = g.S.Sink.taken c.put_literals.new.sink; faults = g.S.Sink.faults c.put_literals.new.sink; gathered = c.put_literals.new.piece } in
    let a = decimal c.args.id ++ 32 ∷ [] in
    let b = literals_text c.args.clause.now in
    let d = ids_text c.args.hints.now in
    let e = addition_parts c.args.clause.now c.args.id c.args.hints.now in
    on_err c.from_residual-in_err-put_literals.result (subst (Breaks first last) e (puts_breaks first here last a (b ++ d) c.in_ok-put_id.ensures.ok (breaks_more here last b d c.in_err-put_literals.ensures.failed)))

pub returns-clause-ok : goal.returns-clause-ok
returns-clause-ok g c =
    let first : OutputOf = record { taken = g.S.Sink.taken c.args.sink.now; faults = g.S.Sink.faults c.args.sink.now; gathered = c.args.piece.now } in
    let here : OutputOf = record { taken = g.S.Sink.taken c.put_id.new.sink; faults = g.S.Sink.faults c.put_id.new.sink; gathered = c.put_id.new.piece } in
    let next : OutputOf = record { taken = g.S.Sink.taken c.put_literals.new.sink; faults = g.S.Sink.faults c.put_literals.new.sink; gathered = c.put_literals.new.piece } in
    let last : OutputOf = record { taken = g.S.Sink.taken c.put_ids.new.sink; faults = g.S.Sink.faults c.put_ids.new.sink; gathered = c.put_ids.new.piece } in
    let a = decimal c.args.id ++ 32 ∷ [] in
    let b = literals_text c.args.clause.now in
    let d = ids_text c.args.hints.now in
    let e = addition_parts c.args.clause.now c.args.id c.args.hints.now in
    on_ok_weaker c.put_ids.result (λ p. subst (Puts first last) e (puts_both first here last a (b ++ d) c.in_ok-put_id.ensures.ok (puts_both here next last b d c.in_ok-put_literals.ensures.ok p))) c.put_ids.ensures.ok

pub returns-clause-failed : goal.returns-clause-failed
returns-clause-failed g c =
    let first : OutputOf = record { taken = g.S.Sink.taken c.args.sink.now; faults = g.S.Sink.faults c.args.sink.now; gathered = c.args.piece.now } in
    let here : OutputOf = record { taken = g.S.Sink.taken c.put_id.new.sink; faults = g.S.Sink.faults c.put_id.new.sink; gathered = c.put_id.new.piece } in
    let next : OutputOf = record { taken = g.S.Sink.taken c.put_literals.new.sink; faults = g.S.Sink.faults c.put_literals.new.sink; gathered = c.put_literals.new.piece } in
    let last : OutputOf = record { taken = g.S.Sink.taken c.put_ids.new.sink; faults = g.S.Sink.faults c.put_ids.new.sink; gathered = c.put_ids.new.piece } in
    let a = decimal c.args.id ++ 32 ∷ [] in
    let b = literals_text c.args.clause.now in
    let d = ids_text c.args.hints.now in
    let e = addition_parts c.args.clause.now c.args.id c.args.hints.now in
    on_err_weaker c.put_ids.result (λ p. subst (Breaks first last) e (puts_breaks first here last a (b ++ d) c.in_ok-put_id.ensures.ok (puts_breaks here next last b d c.in_ok-put_literals.ensures.ok p))) c.put_ids.ensures.failed
